pub mod Writes
pub mod TapeRuns
