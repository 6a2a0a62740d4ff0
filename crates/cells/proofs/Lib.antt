pub mod Pairs
pub mod Cells
