pub mod Answered
pub mod Blocks
pub mod Headers
pub mod OneReading
pub mod ReadsBack
pub mod Splitting
pub mod TimeBase
