pub mod Tables
pub mod Answers
