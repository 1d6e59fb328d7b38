use Rattle.std.proofs.Common.{sym, ◌∙◌}
use Rattle.simplex_voter.proofs.Sources.{timer-held}
use Rattle.simplex_voter.proofs.planner.Planner.holds.Goals as goal

pub returns-in-Timer : goal.returns-in-Timer
returns-in-Timer g c = λ made answers desk s. rw c.in-Timer.is (c.is_due.ensures made answers _ s ∙ sym (timer-held s c.args.now))
