pub mod About
pub mod Lines
pub mod Opening
pub mod Prefix
pub mod Reasons
pub mod Refusals
pub mod Says
pub mod Words
