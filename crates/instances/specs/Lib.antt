-- What a process's instances are computed from; src/lib.rt has the list.
pub mod Runs
