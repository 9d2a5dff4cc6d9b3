pub mod Texts
pub mod Replies
pub mod Tables
pub mod Shorts
