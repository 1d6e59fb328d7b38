pub mod Turn
pub mod Node
