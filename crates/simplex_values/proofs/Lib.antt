pub mod Same
pub mod TermCounts
