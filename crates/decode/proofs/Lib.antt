pub mod Read
pub mod Accepts
pub mod Refusals
pub mod Whole
