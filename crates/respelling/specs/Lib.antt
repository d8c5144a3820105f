pub mod Reencode
