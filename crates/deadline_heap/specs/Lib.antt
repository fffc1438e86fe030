pub mod Bits
pub mod Canonical
pub mod Entries
pub mod HeapParts
pub mod Laws
pub mod WheelView
