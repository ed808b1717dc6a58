pub mod Filling
pub mod Marking
pub mod Turning
pub mod Entering
pub mod Gathering
pub mod Judging
