pub mod Places
pub mod Ran
pub mod Standing
pub mod Starting
