pub mod EndView
pub mod Gate
