pub mod Hops
pub mod Station
