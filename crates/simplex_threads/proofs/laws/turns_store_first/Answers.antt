use Rattle.simplex_threads.proofs.StoredFirst.{turns_first}
use Rattle.simplex_threads.proofs.laws.turns_store_first.Goals as goal

pub returns : goal.returns
returns c = turns_first c.steps_are_lived.ensures c.starts_are_lived.ensures c.knowledge_is_written.ensures
