pub mod Certificate
pub mod Walk
pub mod Held
pub mod Checking
pub mod Refusals
