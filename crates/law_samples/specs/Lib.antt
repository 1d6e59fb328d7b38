pub mod Gaps
pub mod Quorums
pub mod Shown
pub mod Lists
pub mod Faulty
pub mod Computed
