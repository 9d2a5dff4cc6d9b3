pub mod Drawn
pub mod Points
pub mod Scaled
pub mod Through
