pub mod Frame
pub mod Spell
pub mod Write
