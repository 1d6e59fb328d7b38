pub mod Accusing
pub mod Sparing
