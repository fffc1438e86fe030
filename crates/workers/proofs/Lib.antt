pub mod Ended
pub mod GoingOn
pub mod Paired
pub mod Places
pub mod Started
pub mod Zipped
