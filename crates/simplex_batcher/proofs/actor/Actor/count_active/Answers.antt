use Rattle.std.proofs.Common.{ap, ◌∙◌, sym}
use Rattle.simplex_batcher.specs.Stands.{batcher_made}
use Rattle.simplex_batcher.proofs.Counting.{seen-same}
use Rattle.simplex_batcher.proofs.actor.Actor.count_active.Goals as goal

pub returns : goal.returns
unfolding batcher_made
returns g c = λ made standing s.
    c.count_seen.ensures ∙ seen-same c.args.self.now.seen standing c.args.since s.seen_is _ _ (c.participants.ensures ∙ sym (ap (λ m. m.members) s.made_is))
