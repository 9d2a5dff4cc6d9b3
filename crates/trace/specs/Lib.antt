pub mod Entries
pub mod Checks
pub mod Meanings
pub mod Asks
pub mod Extracts
pub mod Law
pub mod Tracing
pub mod Texts
