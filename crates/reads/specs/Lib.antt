pub mod Search
pub mod Cells
pub mod Lying
