pub mod Asking
pub mod Checks
pub mod Parts
pub mod Says
