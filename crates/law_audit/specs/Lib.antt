pub mod Taken
pub mod Recording
