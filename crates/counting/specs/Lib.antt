-- Instances counted on; row numbers as forms, counted on, and their table.
pub mod Course
pub mod Forms
pub mod Strides
pub mod Numbers
