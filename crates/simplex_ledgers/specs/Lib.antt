pub mod End
pub mod Form
pub mod Says
pub mod Sound
