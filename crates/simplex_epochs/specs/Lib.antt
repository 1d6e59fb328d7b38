pub mod Form
pub mod Reasons
pub mod Runs
pub mod Says
