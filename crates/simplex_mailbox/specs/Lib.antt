pub mod Computed
pub mod Mail
pub mod Pending
pub mod Post
pub mod Samples
pub mod Waiting
