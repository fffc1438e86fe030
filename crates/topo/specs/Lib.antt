pub mod Faults
pub mod Keys
pub mod Laws
pub mod Links
pub mod Nodes
pub mod Topologies
pub mod TopologyView
