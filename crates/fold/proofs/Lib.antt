pub mod Count
pub mod Places
pub mod Digits
pub mod Steps
pub mod Laws
pub mod Masks
