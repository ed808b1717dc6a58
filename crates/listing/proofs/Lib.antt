pub mod Marks
pub mod Within
pub mod Words
