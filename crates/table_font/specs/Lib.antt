pub mod Rows
pub mod Opened
pub mod Lists
pub mod Maximums
