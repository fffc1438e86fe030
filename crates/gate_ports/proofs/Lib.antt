pub mod Building
pub mod Ends
pub mod Joining
