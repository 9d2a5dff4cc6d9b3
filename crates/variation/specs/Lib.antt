pub mod ByHand
pub mod Scalars
pub mod Within
