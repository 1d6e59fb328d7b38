pub mod Chained
pub mod Epochs
pub mod Written
