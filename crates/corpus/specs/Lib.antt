pub mod Taking
pub mod Choices
pub mod Blocks
pub mod Queries
