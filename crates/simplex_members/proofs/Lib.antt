pub mod Rounds
pub mod Good
pub mod Seeds
pub mod Electing
pub mod Standing
pub mod Configs
