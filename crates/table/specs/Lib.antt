-- What the columns' words mean, and that the rows read off them are document 01's.
pub mod Blocks
pub mod Columns
pub mod Drawable
