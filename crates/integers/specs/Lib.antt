-- The toolkit for whole numbers, vectors, machine words and loops; src/lib.rt has its guide.
pub mod Differences
pub mod Variables
pub mod Ring
pub mod Order
pub mod Vectors
pub mod Bounds
pub mod Words
pub mod Bytes
pub mod Fill
