pub mod Run
pub mod Line
pub mod Cases
