use Rattle.simplex_threads.proofs.Engines.{begun_lives, heard_lives, answered_lives, stepped_lives}
use Rattle.simplex_threads.proofs.laws.unbroken_engines_have_lived.Goals as goal

pub returns-clause-started : goal.returns-clause-started
returns-clause-started c = begun_lives

pub returns-clause-heard : goal.returns-clause-heard
returns-clause-heard c = heard_lives

pub returns-clause-answered : goal.returns-clause-answered
returns-clause-answered c = answered_lives

pub returns-clause-stepped : goal.returns-clause-stepped
returns-clause-stepped c = stepped_lives
