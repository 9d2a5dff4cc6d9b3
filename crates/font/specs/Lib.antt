pub mod Flags
pub mod Replies
pub mod Maximums
pub mod Texts
