pub mod Computed
pub mod Contents
pub mod Faults
pub mod Journal
pub mod Memory
pub mod Order
