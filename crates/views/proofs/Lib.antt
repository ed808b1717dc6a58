pub mod Commands
pub mod Onward
