-- Worked cases, computed; src/lib.rt has the list.
pub mod Cases
pub mod Slanted
pub mod Walks
pub mod Boards
pub mod Choices
