pub mod Types
pub mod Rounding
pub mod Scales
pub mod Turns
pub mod ByHand
