pub mod Affine
pub mod Decomposed
pub mod ByHand
