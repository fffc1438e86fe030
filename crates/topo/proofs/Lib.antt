pub mod EdgeNodes
pub mod Firsts
pub mod SeenIds
pub mod InRange
pub mod TooManyLinks
pub mod Valid
pub mod Refusals
pub mod Faultless
