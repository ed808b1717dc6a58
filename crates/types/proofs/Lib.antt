pub mod Cells
pub mod Upward
pub mod Coding
pub mod Reading
pub mod Taking
