pub mod Indexes
pub mod Stairs
pub mod Standing
