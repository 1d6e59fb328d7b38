pub mod Contents
pub mod Application
pub mod Handling
