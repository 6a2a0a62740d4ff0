pub mod Sums
pub mod Level
