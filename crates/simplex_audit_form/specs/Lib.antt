pub mod Pieces
pub mod Took
pub mod Requests
pub mod Calls
pub mod Entries
pub mod Document
