pub mod Placed
pub mod Rising
pub mod Marks
pub mod Turns
pub mod Counts
pub mod Work
pub mod Evidences
