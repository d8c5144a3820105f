pub mod AsWritten
pub mod Unseen
