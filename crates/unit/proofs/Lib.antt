mod Fields
pub mod Kept
mod Placing
