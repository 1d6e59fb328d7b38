pub mod Leading
pub mod Moving
pub mod Sending
pub mod Opening
pub mod Numbers
pub mod Mailed
pub mod Settling
pub mod Gaps
