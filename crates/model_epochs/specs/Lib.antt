pub mod Chain
pub mod Computed
pub mod Epochs
pub mod Lines
pub mod Samples
