pub mod Parts
pub mod Past
