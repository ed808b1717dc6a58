pub mod Parents
pub mod Results
