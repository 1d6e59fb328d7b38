use Rattle.std.proofs.Common.{◌≡◌, ◌∙◌, ap, sym, refl, Option, Some, None, arith}
use Rattle.std.proofs.lemmas.Grind.{common_steps}
use Rattle.std.specs.Option.{option_map, option_map_or}
use Rattle.simplex_round.specs.Assembly.{constructed}
use Rattle.simplex_round.specs.Calls.{TryConstruct}
use Rattle.simplex_round.specs.Stands.{StandsFor}
use Rattle.model_steps.specs.Batcher.{Standing, RoundHistory, constructing, called, known_in, with_batch}
use Rattle.simplex_batcher.specs.Rounds.{round_of}
use Rattle.simplex_batcher.specs.Stands.{work_of}
use Rattle.simplex_batcher.specs.Holding.{Holds}
use Rattle.simplex_batcher.specs.Working.{constructing_at}
use Rattle.simplex_batcher.proofs.Placing.{same-some, set}
use Rattle.simplex_batcher.proofs.Batches.{batch-standing, batch-dirty}
use Rattle.simplex_batcher.proofs.Holding.{holds-set}
use Rattle.simplex_batcher.proofs.working.construct.Goals as goal

pub returns-clause-works : goal.returns-clause-works
unfolding constructing_at constructing round_of StandsFor
returns-clause-works g c = λ made same view before doing h.
    elim (doing.standing.rounds view) as (λ (o : Option RoundHistory). doing.standing.rounds view ≡ o
    → Holds (Some c.try_construct.new.self) c.publish_batch.new.work view before (option_map_or (λ round. constructing made view round doing) o doing)) [
      | None ↦ λ is. absurd (let bad : Some c.args.round.now ≡ None = h.round_is ∙ ap (option_map round_of) is in cc)
      | Some history ↦ λ is.
          let round : c.args.round.now ≡ round_of history = same-some _ _ (h.round_is ∙ ap (option_map round_of) is) in
          let taken = c.in_ok-batch.ensures.stands history.made history.calls round in
          let answer = c.in_ok-batch.ensures.answer history.made history.calls round in
          let batch = constructed history.made made.scheme (known_in history) in
          let rounds = set view (called (TryConstruct made.scheme) history) doing.standing.rounds in
          holds-set (Some c.args.round.now) c.args.work.now c.publish_batch.new.work view before doing (constructing made view history doing) c.try_construct.new.self (called (TryConstruct made.scheme) history) h
          (rw (← same) at taken) (ap (λ (s : Standing). record s { rounds = set view (called (TryConstruct made.scheme) history) s.rounds }) (batch-standing batch doing)) (batch-dirty batch doing)
          (c.in_ok-publish_batch.ensures doing h.does ∙ ap (λ b. work_of (with_batch b doing)) (rw (← same) at answer))
    ] refl

pub returns-clause-quiet : goal.returns-clause-quiet
unfolding round_of StandsFor
returns-clause-quiet g c = λ idle made same history is.
    let answer = c.in_ok-batch.ensures.answer history.made history.calls is in
    let none : c.in_ok-batch.batch ≡ None = grind (arith, common_steps) in
    sym (rw (← same) at answer) ∙ none
