use Rattle.simplex_engine.proofs.VoterMail.{step-quiet, start-quiet}
use Rattle.simplex_engine.proofs.laws.voter_hands_itself_nothing.Goals as goal

pub returns-clause-steps : goal.returns-clause-steps
returns-clause-steps c = step-quiet

pub returns-clause-starts : goal.returns-clause-starts
returns-clause-starts c = start-quiet
