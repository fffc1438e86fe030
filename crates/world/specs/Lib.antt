pub mod Orders
pub mod Rounds
pub mod Starting
pub mod Steps
pub mod WorldView
pub mod Worlds
