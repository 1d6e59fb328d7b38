use Rattle.law_audit.proofs.Reading.{is_read}
use Rattle.law_audit.proofs.votes.steps_are_read.Goals as goal

pub returns-clause-known : goal.returns-clause-known
returns-clause-known c = λ made now input standing doing taking t e. (is_read made now input standing doing taking t e).knows

pub returns-clause-votes : goal.returns-clause-votes
returns-clause-votes c = λ made now input standing doing taking t e. (is_read made now input standing doing taking t e).votes
