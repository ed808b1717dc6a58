pub mod Writings
pub mod PairParts
pub mod PairLaws
pub mod PackedLaws
pub mod Safety
pub mod Survival
