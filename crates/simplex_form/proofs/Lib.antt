pub mod Objects
pub mod Texts
pub mod Numbers
pub mod Reading
pub mod Members
pub mod Usual
