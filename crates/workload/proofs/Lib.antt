pub mod Lines
pub mod Packets
pub mod Sizes
pub mod States
