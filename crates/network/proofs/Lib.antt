-- Theorems on which no definition rests.
pub mod Places
pub mod Programs
pub mod Slots
pub mod Links
pub mod Gets
pub mod Puts
pub mod Fires
pub mod Steps
pub mod Runs
pub mod Outcome
pub mod States
pub mod Kept
pub mod Finish
pub mod Starts
pub mod Beyond
pub mod Demand
