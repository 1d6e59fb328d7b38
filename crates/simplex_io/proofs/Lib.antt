-- The lemmas on sources and sinks.
pub mod Taken
