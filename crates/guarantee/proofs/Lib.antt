-- Theorems on which no definition rests.
pub mod Wired
pub mod Beyond
pub mod Demand1
pub mod Alike
pub mod Guarantee
