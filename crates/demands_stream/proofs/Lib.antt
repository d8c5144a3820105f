pub mod Cut
pub mod Between
pub mod Line
pub mod Cases
