use Rattle.std.proofs.Common.{◌≡◌, ◌∙◌, ap, refl, Option, Some, None}
use Rattle.std.specs.Option.{option_map, option_map_or}
use Rattle.simplex_round.specs.Calls.{TryForward}
use Rattle.model_steps.specs.Batcher.{RoundHistory, forwarded, called, number_of}
use Rattle.simplex_round.specs.Stands.{StandsFor}
use Rattle.simplex_batcher.specs.Rounds.{round_of}
use Rattle.simplex_batcher.specs.Holding.{Holds}
use Rattle.simplex_batcher.specs.Working.{forwarded_at}
use Rattle.simplex_batcher.proofs.Placing.{same-some}
use Rattle.simplex_batcher.proofs.Holding.{holds-set}
use Rattle.simplex_batcher.proofs.working.forward_proposal.Goals as goal

pub returns : goal.returns
unfolding forwarded_at forwarded round_of StandsFor
returns c = λ made me view before doing h.
    elim (doing.standing.rounds view) as (λ (o : Option RoundHistory). doing.standing.rounds view ≡ o
    → Holds (Some c.try_forward_proposal-proposal.new.self) c.hand_proposal.new.work view before (option_map_or (λ round. forwarded made view round doing) o doing)) [
      | None ↦ λ is. absurd (let bad : Some c.args.round.now ≡ None = h.round_is ∙ ap (option_map round_of) is in cc)
      | Some history ↦ λ is.
          let round : c.args.round.now ≡ round_of history = same-some _ _ (h.round_is ∙ ap (option_map round_of) is) in
          let taken = c.try_forward_proposal-proposal.ensures.stands history.made history.calls round in
          let answer = c.try_forward_proposal-proposal.ensures.answer history.made history.calls round in
          holds-set (Some c.args.round.now) c.args.work.now c.hand_proposal.new.work view before doing (forwarded made view history doing) c.try_forward_proposal-proposal.new.self (called (TryForward (number_of made)) history) h
          (rw me at taken) refl refl (c.in_ok-hand_proposal.ensures ∙ rw (h.does, answer, me) refl)
    ] refl
