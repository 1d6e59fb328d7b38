use Rattle.std.proofs.Common.{rules, not, arith}
use Rattle.std.proofs.lemmas.Fn.{filter_same}
use Rattle.std.proofs.lemmas.Grind.{common_steps}
use Rattle.model_resolver.specs.Asks.{holds_ask}
use Rattle.model_resolver.specs.declared.arrivals.Arrival.{Arrival}
use Rattle.model_resolver.proofs.arrivals.Arrivals.drop_asks.Goals as goal

pub returns : goal.returns
returns c =
    let same = filter_same _ (λ (arrival : Arrival). not (holds_ask c.args.done.now arrival.ask)) _ (λ x b f' t. search rules) _ _ c.retain.ensures.filtered in
    grind (arith, common_steps, same)
