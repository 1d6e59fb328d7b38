pub mod Held
pub mod Terms
pub mod Ranges
pub mod Fresh
pub mod Candidates
pub mod Leads
pub mod Spans
pub mod Lacking
