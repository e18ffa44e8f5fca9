-- Rows written where a test says so; rows fit words; the rows of a stream; the rows of a description.
pub mod Marks
pub mod Widths
pub mod Strung
pub mod Filled
