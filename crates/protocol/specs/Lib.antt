pub mod Pid
