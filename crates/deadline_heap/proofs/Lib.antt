pub mod FirstBits
pub mod Inserts
pub mod Leads
pub mod Maps
pub mod Merging
pub mod Orders
pub mod Ring
pub mod Turning
