pub mod Sameness
pub mod Lists
pub mod Runs
pub mod Laws
pub mod Notes
pub mod Consults
