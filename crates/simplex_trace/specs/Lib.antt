pub mod Deeds
pub mod Items
pub mod Trace
pub mod Words
