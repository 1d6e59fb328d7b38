pub mod Honest
pub mod Beside
pub mod Quiet
pub mod Apart
pub mod Whole
