pub mod Report
pub mod Content
pub mod Numbers
