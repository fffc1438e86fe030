pub mod Gml
pub mod Trace
