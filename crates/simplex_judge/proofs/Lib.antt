pub mod Following
pub mod Judged
pub mod Seats
pub mod Sent
pub mod Verdicts
