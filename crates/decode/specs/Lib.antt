pub mod Answer
pub mod Read
pub mod Outline
pub mod Numbers
