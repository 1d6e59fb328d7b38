pub mod Config
pub mod Holding
pub mod Laws
pub mod Made
pub mod Parts
pub mod Polled
pub mod Settled
pub mod Stands
