pub mod Answers
pub mod Changes
pub mod Faults
pub mod Head
pub mod Laws
pub mod Splits
pub mod SplitView
