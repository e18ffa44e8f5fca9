-- Theorems on which no definition rests.
pub mod Ring
pub mod Order
pub mod Vectors
pub mod Fill
pub mod Examples
