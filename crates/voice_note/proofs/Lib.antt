-- how far transposes move a note
pub mod Shifts
