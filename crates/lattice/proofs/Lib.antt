-- Theorems on which no definition rests.
pub mod Shortening
pub mod Values
