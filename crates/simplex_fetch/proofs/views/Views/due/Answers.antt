use Rattle.std.proofs.lemmas.Result.{IfOk-weaker}
use Rattle.simplex_fetch.proofs.Reached.{due-is}
use Rattle.simplex_fetch.proofs.views.Views.due.Goals as goal

pub returns : goal.returns
returns c = rw (← c.self.view_is) (IfOk-weaker c.reached.result _ _ (λ set made. due-is c.self.inside.entries.entries c.self.inside.timers.keys c.self.inside.numbers.entries c.self.invariant.0 c.args.now set made) c.reached.ensures)
