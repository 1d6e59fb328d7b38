use Rattle.law_audit.proofs.Alike.{alike_acted, same_votes_due}
use Rattle.law_audit.proofs.votes.votes_are_due_alike.Goals as goal

pub returns-clause-due : goal.returns-clause-due
returns-clause-due c = λ made a b now added taking e. same_votes_due made a b e now added taking

pub returns-clause-known : goal.returns-clause-known
returns-clause-known c = λ made a b now added taking e. alike_acted made a b e now added taking
