mod Running
mod Lawful
mod Signed
mod Lived
mod StoredFirst
mod Leaving
mod Engines
