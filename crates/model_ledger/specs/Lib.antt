pub mod Balances
pub mod Blocks
pub mod Computed
pub mod Doubles
pub mod Failing
pub mod Ledger
pub mod Samples
