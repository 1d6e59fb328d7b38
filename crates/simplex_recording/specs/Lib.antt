pub mod Kept
pub mod Opened
pub mod Recording
pub mod Stands
