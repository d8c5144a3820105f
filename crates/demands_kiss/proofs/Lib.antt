pub mod Spelling
pub mod Numbers
pub mod Kiss
