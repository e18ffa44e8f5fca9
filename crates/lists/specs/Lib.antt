-- Laws of lists; src/lib.rt lists them.
pub mod Members
pub mod Tests
pub mod Rows
pub mod Sums
pub mod Loops
pub mod Stores
pub mod Fills
pub mod Bytes
