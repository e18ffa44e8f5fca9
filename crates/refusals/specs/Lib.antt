-- Refusals by name and by number.
pub mod Numbers
