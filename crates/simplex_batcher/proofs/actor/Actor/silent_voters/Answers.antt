use Rattle.std.proofs.Common.{◌≡◌, ◌∙◌, ◌==◌, ap, sym, not, filter, List, ℕ, Option}
use Rattle.simplex_round.specs.Stands.{StandsFor}
use Rattle.simplex_round.specs.Forwarding.{missing_voters}
use Rattle.model_steps.specs.Batcher.{Made, targets_of, some_passes, known_in}
use Rattle.simplex_batcher.specs.Rounds.{round_of}
use Rattle.simplex_batcher.specs.Stands.{batcher_made}
use Rattle.simplex_batcher.proofs.actor.Actor.silent_voters.Goals as goal

pub returns : goal.returns
unfolding StandsFor round_of batcher_made targets_of
returns g c = λ leader made standing history s is.
    let me : c.me-me.result ≡ made.me = c.me-me.ensures ∙ sym (ap (λ (m : Made). m.me) s.made_is) in
    let missing : c.deref.result.now ≡ missing_voters history.made (known_in history) c.args.proposal.now = c.deref.ensures.value ∙ c.in_ok-missing.ensures history.made history.calls is in
    c.in_ok-others.ensures
    ∙ ap (λ (own : Option ℕ). filter (λ member. not (some_passes (λ it. it == member) own)) c.deref.result.now) me
    ∙ ap (λ (members : List ℕ). filter (λ member. not (some_passes (λ it. it == member) made.me)) members) missing
