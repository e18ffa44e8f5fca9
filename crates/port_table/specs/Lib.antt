-- Two numbers in a word; the words of rows; the port table of an array.
pub mod Pack
pub mod Rows
pub mod PortsOf
