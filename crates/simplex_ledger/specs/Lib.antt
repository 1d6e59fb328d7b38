pub mod Book
pub mod Decoding
pub mod Fits
pub mod Index
