pub mod Sizes
pub mod Pass
pub mod Handed
pub mod Columns
pub mod Filled
