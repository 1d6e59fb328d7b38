pub mod Evidence
pub mod Genesis
pub mod Keyed
pub mod KeyedLaws
pub mod Reporting
pub mod RoundRobin
