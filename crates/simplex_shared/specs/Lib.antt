pub mod Calls
pub mod Desk
pub mod History
pub mod Lock
pub mod Passes
pub mod Samples
