pub mod Asking
pub mod Going
pub mod Holding
pub mod Making
pub mod Members
pub mod Ordering
pub mod Upcoming
pub mod Whole
