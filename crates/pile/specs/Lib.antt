pub mod Spans
pub mod Lists
pub mod Piles
