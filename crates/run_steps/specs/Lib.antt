-- The steps of Run, one after the other.
pub mod Positions
pub mod Going
pub mod Runs
pub mod Turn
