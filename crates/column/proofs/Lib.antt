pub mod Moves
pub mod Join
pub mod Laws
pub mod Gray
pub mod Steps
