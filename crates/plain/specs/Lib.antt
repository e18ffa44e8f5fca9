-- What the call Plain run answers and leaves.
pub mod Call
