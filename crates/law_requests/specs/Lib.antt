pub mod Since
pub mod Open
pub mod Turns
pub mod Steps
pub mod Named
