pub mod Adding
pub mod Voting
pub mod Giving
pub mod Stepping
