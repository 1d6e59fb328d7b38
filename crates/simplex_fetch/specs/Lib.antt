pub mod Index
pub mod Holders
pub mod Peers
pub mod Laws
