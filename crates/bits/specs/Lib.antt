-- The ready words of document 01's call Ready; src/lib.rt has the guide.
pub mod Numbers
pub mod Word
pub mod Tested
pub mod Words
pub mod Ready
