pub mod Text
pub mod Verdict
pub mod Put
pub mod Examples
