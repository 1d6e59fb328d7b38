pub mod Batching
pub mod Finding
pub mod Handing
pub mod Resolving
pub mod Team
pub mod Threads
pub mod Turns
pub mod Voting
