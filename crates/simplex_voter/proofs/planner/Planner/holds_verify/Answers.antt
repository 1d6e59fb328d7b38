use Rattle.std.proofs.Common.{sym, ◌∙◌}
use Rattle.simplex_voter.proofs.Sources.{verify-held-none, verify-held}
use Rattle.simplex_voter.proofs.planner.Planner.holds_verify.Goals as goal

pub returns-in-None : goal.returns-in-None
returns-in-None g c = λ made answers desk s. sym (verify-held-none s c.args.now c.in-None.is)

pub returns-in-Some : goal.returns-in-Some
returns-in-Some g c = λ made answers desk s. c.is_some.ensures ∙ sym (verify-held s c.args.now c.in-Some.request c.in-Some.is)
