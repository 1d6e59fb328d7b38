use Rattle.std.proofs.Common.{rules}
use Rattle.std.specs.Prelude.{not}
use Rattle.std.proofs.lemmas.Fn.{filter_same}
use Rattle.simplex_application.specs.Application.{waits_for}
use Rattle.simplex_application.proofs.state.drop_judged.Goals as goal

pub returns : goal.returns
returns c = filter_same _ (λ w. not (waits_for c.args.payload.now w)) _ (λ x b f' t. search rules) _ _ c.retain.ensures.filtered
