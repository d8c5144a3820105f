pub mod Ascii
pub mod Words
pub mod Room
