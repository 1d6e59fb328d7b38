use Rattle.std.proofs.Common.{sym, ◌∙◌}
use Rattle.simplex_judge.proofs.Seats.{seat-some}
use Rattle.simplex_judge.proofs.followers.follower_of.Goals as goal

pub returns : goal.returns
returns c = seat-some _ c.args.setup.now _ (sym c.has_engine.ensures ∙ c.if-not-has_engine.false) c.in_ok-new.ensures
