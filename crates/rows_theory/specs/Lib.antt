pub mod Order
pub mod Effect
pub mod Describing
pub mod Writing
pub mod Meaning
