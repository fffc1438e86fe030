pub mod Lexed
pub mod PieceLengths
pub mod OneReading
pub mod EachText
pub mod SpansInOrder
