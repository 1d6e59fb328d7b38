use Rattle.std.proofs.Common.{rules}
use Rattle.std.proofs.lemmas.Fn.{filter_same}
use Rattle.simplex_messages.proofs.by_view.keep_beside.Goals as goal

pub returns : goal.returns
returns g c = filter_same _ (λ queued. g.M.ByView.outlasts queued c.args.last.now) _ (λ x b f' t. search rules) _ _ c.retain.ensures.filtered
