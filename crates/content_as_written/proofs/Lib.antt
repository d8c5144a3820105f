pub mod Back
pub mod AsWritten
pub mod Laws
pub mod Unseen
