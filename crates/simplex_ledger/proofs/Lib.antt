pub mod Extending
pub mod Indexing
pub mod Reading
pub mod Transfers
