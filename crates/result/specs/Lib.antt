-- All values out, values in element order, and the call Result; src/lib.rt has the list.
pub mod Out
pub mod Order
pub mod Call
