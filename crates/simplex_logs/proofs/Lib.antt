pub mod Logged
pub mod NodeLogs
pub mod Told
pub mod Transcripts
pub mod Written
