pub mod Cluster
pub mod Laws
pub mod Leaving
pub mod Moves
pub mod Pipes
pub mod Report
pub mod Summary
pub mod Traces
