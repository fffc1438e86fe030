pub mod Decimals
pub mod Members
pub mod RangeTests
pub mod Splits
