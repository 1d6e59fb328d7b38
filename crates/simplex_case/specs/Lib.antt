pub mod Answered
pub mod Desk
pub mod Items
pub mod Sources
pub mod Stands
pub mod Taking
