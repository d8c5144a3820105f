pub mod Answer
pub mod Read
pub mod Steps
