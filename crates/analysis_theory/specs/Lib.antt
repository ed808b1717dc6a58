pub mod Faults
pub mod Meaning
pub mod Laws
pub mod Methods
pub mod Pairs
pub mod Packed
pub mod Typing
