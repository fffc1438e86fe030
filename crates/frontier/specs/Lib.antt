pub mod Frontiers
pub mod NodeSets
