-- Sound states, and the theorem that the rules of the code are document 01's; src/lib.rt has the list.
pub mod Sound
pub mod SoundMeaning
pub mod Steps
pub mod Rows
