pub mod Order
pub mod Computing
pub mod Height
