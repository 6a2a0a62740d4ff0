pub mod Pass
pub mod Walk
