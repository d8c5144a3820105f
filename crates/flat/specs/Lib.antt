pub mod Laid
pub mod Given
