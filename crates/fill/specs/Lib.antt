-- What Fill answers and leaves.
pub mod Call
