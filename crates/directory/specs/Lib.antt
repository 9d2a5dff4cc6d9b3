pub mod Rising
pub mod Places
pub mod Parts
