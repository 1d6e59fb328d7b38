pub mod Falling
pub mod Keeping
pub mod Kept
pub mod Valid
