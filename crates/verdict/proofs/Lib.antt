pub mod Tabled
pub mod Verdicts
