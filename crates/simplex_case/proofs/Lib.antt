pub mod Asking
pub mod Casing
pub mod Desks
pub mod Sending
