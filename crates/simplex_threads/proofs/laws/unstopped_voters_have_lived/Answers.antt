use Rattle.simplex_threads.proofs.Leaving.{fresh, started_lives, stepped_lives}
use Rattle.simplex_threads.proofs.StoredFirst.{turns_lived}
use Rattle.simplex_threads.proofs.laws.unstopped_voters_have_lived.Goals as goal

pub returns-clause-empty : goal.returns-clause-empty
returns-clause-empty c = fresh

pub returns-clause-started : goal.returns-clause-started
returns-clause-started c = started_lives

pub returns-clause-stepped : goal.returns-clause-stepped
returns-clause-stepped c = stepped_lives

pub returns-clause-turned : goal.returns-clause-turned
returns-clause-turned c = turns_lived
