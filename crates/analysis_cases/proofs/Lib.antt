pub mod Seen
pub mod Sound
