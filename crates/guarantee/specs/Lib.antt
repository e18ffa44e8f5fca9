-- What holds of an accepted array; src/lib.rt lists the theorems.
pub mod Refusals
pub mod WordConditions
pub mod NestConditions
pub mod StreamConditions
pub mod Acceptance
pub mod Instances
pub mod Stops
pub mod Ranks
pub mod Touches
pub mod Times
pub mod Wired
pub mod Elements
pub mod Alike
pub mod TableRows
pub mod Demand2
