pub mod Order
pub mod Effect
pub mod Description
pub mod Writing
pub mod Types
