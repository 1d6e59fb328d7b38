-- The definitions that the contracts of sources and sinks cite.
pub mod Errors
pub mod Io
pub mod Memory
