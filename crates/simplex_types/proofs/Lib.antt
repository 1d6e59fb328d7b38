pub mod KeyLists
pub mod Spellings
