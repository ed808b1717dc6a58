pub mod Expected
pub mod Outline
