use Rattle.std.proofs.Common.{rules, not}
use Rattle.std.proofs.lemmas.Fn.{filter_same}
use Rattle.simplex_messages.specs.Policies.{outdates_message}
use Rattle.simplex_messages.proofs.batcher.policy.keep_needed.Goals as goal

pub returns : goal.returns
returns c =
    filter_same _ (λ queued. not (outdates_message c.args.current c.args.finalized queued)) _ (λ x b f' t. search rules) _ _ c.retain.ensures.filtered
