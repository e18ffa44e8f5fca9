-- Links, the rows of an array and where their words lie; src/lib.rt has the list.
pub mod Links
pub mod Ports
pub mod Ends
pub mod Layout
pub mod Places
pub mod Rows
pub mod LinksMeaning
