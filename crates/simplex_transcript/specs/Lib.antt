pub mod Names
pub mod Usual
