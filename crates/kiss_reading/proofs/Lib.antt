pub mod Judged
pub mod Turns
