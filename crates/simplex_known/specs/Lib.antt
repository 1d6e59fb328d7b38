pub mod Covers
pub mod Knows
pub mod Opened
pub mod Proposals
pub mod Rounds
