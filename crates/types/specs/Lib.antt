pub mod Cells
pub mod Popping
