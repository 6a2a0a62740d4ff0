pub mod Answered
pub mod Lettering
pub mod Pairs
