pub mod Turns
pub mod Walk
