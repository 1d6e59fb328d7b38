pub mod Failing
pub mod Follows
pub mod Pruning
pub mod Starting
pub mod Taking
pub mod Votes
