pub mod Form
pub mod Setup
pub mod Events
pub mod Input
pub mod Stream
