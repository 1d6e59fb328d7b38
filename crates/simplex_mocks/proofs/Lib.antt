pub mod Turning
pub mod Words
pub mod VotesToAll
pub mod Spreading
pub mod Without
pub mod Slots
pub mod Speaking
pub mod Standing
