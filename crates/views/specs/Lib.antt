pub mod Commands
pub mod Way
