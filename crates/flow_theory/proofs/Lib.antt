pub mod Tests
pub mod Accepting
pub mod Written
pub mod Decoding
pub mod Verdicts
pub mod Fields
