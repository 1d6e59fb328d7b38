pub mod NodeLogs
pub mod Says
pub mod Taken
