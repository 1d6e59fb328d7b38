pub mod Accusations
