pub mod Programs
pub mod Targets
