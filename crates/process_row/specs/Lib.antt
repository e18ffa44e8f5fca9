-- A row of the table, by the words of the columns.
pub mod Rows
