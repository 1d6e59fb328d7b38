pub mod Combined
pub mod Lengths
