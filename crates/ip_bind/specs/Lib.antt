pub mod Books
pub mod Frames
pub mod Laws
