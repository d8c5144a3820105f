pub mod Read
pub mod Numbers
pub mod Judged
