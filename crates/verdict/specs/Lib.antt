pub mod Verdicts
pub mod Stages
