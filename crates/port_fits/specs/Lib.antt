-- The port table of an accepted description's array; src/lib.rt lists the theorems.
pub mod Instances
pub mod Sizes
pub mod Fits
pub mod Lines
