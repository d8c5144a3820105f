pub mod Places
pub mod Calls
