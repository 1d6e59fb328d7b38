pub mod Apart
pub mod Entered
pub mod Keys
pub mod Pushed
