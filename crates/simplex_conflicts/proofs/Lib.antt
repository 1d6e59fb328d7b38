mod Asking
pub mod Clashing
mod Climbing
pub mod Good
mod Naming
pub mod Tests
