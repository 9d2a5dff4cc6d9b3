pub mod Codes
pub mod Tape
pub mod Taped
