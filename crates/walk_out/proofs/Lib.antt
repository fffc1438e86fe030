pub mod Around
pub mod Hops
pub mod Outer
pub mod WithoutCore
