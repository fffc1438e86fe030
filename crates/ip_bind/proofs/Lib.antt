pub mod Books
pub mod NamedNodes
