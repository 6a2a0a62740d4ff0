pub mod Back
pub mod WayBack
