pub mod Claims
pub mod AnalysisExamples
pub mod Examples
pub mod Computed
