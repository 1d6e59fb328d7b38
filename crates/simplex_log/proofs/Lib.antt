pub mod Again
pub mod Joining
pub mod Linking
pub mod Raised
pub mod Raising
pub mod Taking
