pub mod Spell
pub mod Refused
