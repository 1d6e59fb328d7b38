pub mod Coming
pub mod Playing
pub mod Rewriting
pub mod Stands
