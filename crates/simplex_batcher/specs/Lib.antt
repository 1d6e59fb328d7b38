pub mod Bound
pub mod Activity
pub mod Hearing
pub mod Holding
pub mod Opened
pub mod Rounds
pub mod Stands
pub mod Working
