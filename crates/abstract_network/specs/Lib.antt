-- The abstract network, over numbers alone. src/lib.rt says which file has what.
pub mod Cases
pub mod Counters
pub mod Sound
pub mod Descent
pub mod Waits
pub mod Due
pub mod Clock
pub mod Values
pub mod Turns
pub mod Ranks
pub mod Words
pub mod Firing
pub mod System
pub mod Good
pub mod Claims
