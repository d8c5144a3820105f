pub mod Masks
pub mod Laws
