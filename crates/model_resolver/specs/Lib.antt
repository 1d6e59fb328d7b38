pub mod Asks
pub mod Retirement
pub mod Views
pub mod Fetcher
pub mod Sends
pub mod Resolver
pub mod Laws
pub mod Computed
