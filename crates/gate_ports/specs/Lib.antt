pub mod Building
pub mod GatePorts
pub mod GatePortsLaws
pub mod GatePortsView
