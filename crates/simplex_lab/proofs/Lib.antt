pub mod Opened
pub mod Traced
pub mod Saying
pub mod Scripted
