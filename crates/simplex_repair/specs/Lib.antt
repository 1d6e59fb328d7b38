pub mod Gaps
pub mod Laws
pub mod Maps
pub mod Opened
pub mod Stands
pub mod Taken
