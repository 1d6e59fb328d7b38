use Rattle.std.proofs.Common.{sym}
use Rattle.simplex_voter.proofs.Sources.{certify-held}
use Rattle.simplex_voter.proofs.planner.Planner.holds_certify.Goals as goal

pub returns : goal.returns
returns g c = λ made answers desk s. rw (← c.deref.ensures.value, ← c.first_answered.ensures, ← c.kept_answer.ensures, ← c.is_some.ensures) at (sym (certify-held s c.args.now))
