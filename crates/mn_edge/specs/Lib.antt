pub mod Fail
pub mod MemoryHostView
pub mod Part
pub mod RealHostView
pub mod RealRoleView
pub mod Role
pub mod StreamView
pub mod Whole
