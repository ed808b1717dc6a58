pub mod Sets
pub mod Effect
pub mod Describing
pub mod Writing
pub mod Meaning
