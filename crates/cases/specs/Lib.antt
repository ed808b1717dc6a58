pub mod Claims
pub mod ReadingExamples
pub mod MachineExamples
pub mod Examples
pub mod Computed
