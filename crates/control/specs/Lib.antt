pub mod Mode
pub mod Control
pub mod Spell
