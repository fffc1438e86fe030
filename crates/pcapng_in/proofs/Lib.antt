pub mod BlockByBlock
pub mod ByFormat
pub mod Kept
pub mod OneAnswer
pub mod OptionLists
