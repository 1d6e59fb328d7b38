pub mod Followed
pub mod Followers
pub mod Judging
pub mod Sending
