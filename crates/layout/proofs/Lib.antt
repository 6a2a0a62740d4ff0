pub mod Fields
pub mod Tests
pub mod Laws
pub mod Cuts
