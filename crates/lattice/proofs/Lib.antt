pub mod Ancestors
pub mod Orders
pub mod Plain
pub mod Climbs
pub mod Joins
pub mod Computed
pub mod Heights
