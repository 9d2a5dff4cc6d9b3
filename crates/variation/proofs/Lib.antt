pub mod Products
pub mod Within
