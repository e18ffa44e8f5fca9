-- The theory of request 2.3; src/lib.rt has more.
pub mod Shifts
pub mod Rounds
pub mod Drawn
pub mod Made
