pub mod Answered
pub mod Going
pub mod JournalLines
pub mod Partings
