-- The calls' tests of lengths, in their order.
pub mod Tests
