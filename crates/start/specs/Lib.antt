-- Values put at their elements' places, and words cleared; the call's own refusals, and what it answers and leaves.
pub mod Values
pub mod Call
