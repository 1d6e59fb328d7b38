pub mod Keys
pub mod Facts
pub mod Gating
pub mod Growing
pub mod Apart
pub mod Spanning
