pub mod NodeLists
pub mod KindLists
