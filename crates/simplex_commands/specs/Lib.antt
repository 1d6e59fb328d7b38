pub mod Commands
pub mod Nearest
pub mod Requests
