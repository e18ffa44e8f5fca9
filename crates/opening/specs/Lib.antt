-- The refusals that the calls on a memory share, and what holds once there is none; src/lib.rt has the list.
pub mod Opening
pub mod Opened
