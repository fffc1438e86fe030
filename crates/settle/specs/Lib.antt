pub mod Counted
pub mod IsOutcome
pub mod Laws
pub mod OutcomeView
pub mod Settlements
pub mod Ways
