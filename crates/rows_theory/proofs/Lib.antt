pub mod RowsLaws
pub mod OrderLemmas
pub mod Uses
pub mod Safe
pub mod WritingLemmas
