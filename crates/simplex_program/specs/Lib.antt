pub mod Words
pub mod Exit
pub mod Cause
pub mod Whole
