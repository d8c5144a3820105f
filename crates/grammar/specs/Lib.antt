pub mod Kept
pub mod Stations
pub mod Moved
