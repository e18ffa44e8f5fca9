-- Theorems on which no definition rests.
pub mod Steps
pub mod Order
