pub mod Scripts
pub mod Leading
pub mod FaultyMember
pub mod NodeEngine
