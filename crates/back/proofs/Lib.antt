pub mod Rows
pub mod Classes
pub mod Settled
pub mod GoingOn
