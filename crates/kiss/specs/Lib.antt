pub mod Packet
pub mod Write
pub mod Steps
