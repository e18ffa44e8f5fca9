-- What the range tests leave; instances by turns; boxes.
pub mod Ranges
pub mod Turns
pub mod Corners
pub mod Extents
