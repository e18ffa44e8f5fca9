-- Where elements wait, as their pipes say it; src/lib.rt has the list.
pub mod Spread
pub mod Order
pub mod Runs
pub mod Walked
pub mod Lent
pub mod Lines
