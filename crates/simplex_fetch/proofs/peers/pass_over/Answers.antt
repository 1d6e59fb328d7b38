use Rattle.std.proofs.Common.{not, rules}
use Rattle.std.proofs.lemmas.Fn.{filter_same}
use Rattle.model_resolver.specs.Asks.{holds_member}
use Rattle.simplex_fetch.proofs.peers.pass_over.Goals as goal

pub returns : goal.returns
returns c =
    filter_same _ (λ member. not (holds_member c.args.blocked.now.keys member)) _ (λ x b f' k. search rules) _ _ c.retain.ensures.filtered
