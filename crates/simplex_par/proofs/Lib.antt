pub mod Lists
pub mod Dealt
pub mod Stepping
pub mod Naming
pub mod Lent
pub mod Entering
pub mod Running
