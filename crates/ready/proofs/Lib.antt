pub mod Piles
pub mod Refused
