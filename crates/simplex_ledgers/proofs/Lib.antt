pub mod Answering
pub mod Balanced
pub mod Lining
