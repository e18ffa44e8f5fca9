-- The steps near a step; src/lib.rt lists the theorems.
pub mod Looks
pub mod Nearby
pub mod Apart
