pub mod Escape
