pub mod Feed
pub mod Steps
