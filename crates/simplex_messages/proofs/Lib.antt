pub mod ByKind
pub mod Finality
pub mod Halves
pub mod Replays
pub mod Twice
pub mod Updates
