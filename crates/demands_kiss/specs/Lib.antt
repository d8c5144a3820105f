pub mod Numbers
pub mod Kiss
