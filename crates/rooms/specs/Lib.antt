pub mod Unlisted
pub mod New
