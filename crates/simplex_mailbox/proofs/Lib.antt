pub mod Fills
pub mod Skipped
pub mod Turns
pub mod Holding
