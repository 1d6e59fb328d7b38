use Rattle.std.proofs.Common.{◌≡◌, ◌∙◌, ap, refl, Some, None}
use Rattle.std.specs.Option.{option_map}
use Rattle.model_steps.specs.Batcher.{forwarding}
use Rattle.simplex_batcher.specs.Rounds.{round_of}
use Rattle.simplex_batcher.specs.Stands.{Stands}
use Rattle.simplex_batcher.proofs.Cases.{forward-at}
use Rattle.simplex_batcher.proofs.Placing.{same-some}
use Rattle.simplex_batcher.proofs.actor.Actor.forward.Goals as goal

pub returns : goal.returns
returns g c = λ dirty made doing s.
    let at : Some c.in-Some-get.round.now ≡ option_map round_of (doing.standing.rounds c.in-Some.proposal.round.view) =
    c.in-Some-get.ensures ∙ s.stands.round_is c.in-Some.proposal.round.view in
    elim (doing.standing.rounds c.in-Some.proposal.round.view) as (λ o. doing.standing.rounds c.in-Some.proposal.round.view ≡ o
    → Stands c.args.self.now c.relay.new.work dirty made (forwarding made c.args.leader c.args.proposal.now doing)) [
      | None ↦ λ is. absurd (let bad : Some c.in-Some-get.round.now ≡ None = at ∙ ap (option_map round_of) is in cc)
      | Some h ↦ λ is.
          let round : c.in-Some-get.round.now ≡ round_of h = same-some _ _ (at ∙ ap (option_map round_of) is) in
          let targets = c.in_ok-targets.ensures made doing.standing h s.stands round in
          rw (c.in-Some.is, forward-at made c.args.leader c.in-Some.proposal doing h is)
          (record { stands = s.stands; does = c.in_ok-relay.ensures ∙ rw (s.does, targets) refl; marks = s.marks })
    ] refl
