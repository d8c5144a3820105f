pub mod Text
pub mod Dump
