pub mod Cells
pub mod Reads
pub mod Places
pub mod Lists
pub mod Ready
pub mod Matrices
