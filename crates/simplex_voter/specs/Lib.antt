pub mod Actor
pub mod Arrivals
pub mod Opened
pub mod Performing
pub mod Stands
pub mod Turned
pub mod Unanswered
