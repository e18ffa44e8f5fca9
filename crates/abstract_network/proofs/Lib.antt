-- Theorems on which no definition rests.
pub mod Counters
pub mod Sound
pub mod Due
pub mod Clock
pub mod Good
pub mod Claims
