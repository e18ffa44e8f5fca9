-- Document 01's conditions of take and give.
pub mod Allowed
