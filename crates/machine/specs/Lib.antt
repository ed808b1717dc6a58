pub mod Values
pub mod Conforming
pub mod Configuration
pub mod Step
pub mod Runs
pub mod Ways
