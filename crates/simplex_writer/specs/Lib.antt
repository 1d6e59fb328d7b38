pub mod Events
pub mod Inputs
pub mod Names
pub mod Pieces
pub mod Setups
