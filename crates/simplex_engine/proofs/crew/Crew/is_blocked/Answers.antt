use Rattle.std.proofs.Common.{◌∙◌}
use Rattle.simplex_engine.proofs.crew.Crew.is_blocked.Goals as goal

pub returns : goal.returns
returns g c = λ told parts h. c.is_among.ensures ∙ h.blocked c.args.member
