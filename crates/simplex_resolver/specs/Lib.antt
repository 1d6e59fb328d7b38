pub mod Bound
pub mod Laws
pub mod Opened
pub mod Stands
