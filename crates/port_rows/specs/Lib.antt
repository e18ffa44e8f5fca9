-- What the rows of a stream share; the rows are the array's.
pub mod Strands
pub mod Rows
