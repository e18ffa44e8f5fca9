-- Ranges, as the refusals 1 to 5 leave them; tests on small words; what a survey holds; the tests of Accept in stages; accepted
-- descriptions; products by the limits.
pub mod InRange
pub mod Small
pub mod Surveys
pub mod OfBytes
pub mod Grounds
pub mod Stages
pub mod Accepted
pub mod StateWords
