pub mod RowsOf
pub mod Slices
pub mod Texts
