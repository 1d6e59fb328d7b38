use Rattle.std.proofs.Common.{◌∷◌, arith}
use Rattle.std.proofs.lemmas.Grind.{common_steps}
use Rattle.model_rules.specs.Repair.{Replayed}
use Rattle.simplex_repair.specs.Stands.{StandsFor}
use Rattle.simplex_repair.proofs.Leads.{replay_effects, replay_again_effects}
use Rattle.simplex_repair.proofs.repair.RepairState.replayed.Goals as goal

pub returns-then-was_replayed-clause-effects : goal.returns-then-was_replayed-clause-effects
unfolding StandsFor
returns-then-was_replayed-clause-effects c = λ length calls s. grind (arith, common_steps, s.replayed, replay_again_effects length calls)

pub returns-clause-effects : goal.returns-clause-effects
unfolding StandsFor
returns-clause-effects c = λ length calls s.
    grind (
      arith,
      common_steps,
      s.replayed,
      replay_effects length calls,
      (c.note_replayed.ensures length calls s).floor,
      (c.note_replayed.ensures length calls s).top,
      c.in_ok-fetch.ensures length (Replayed ∷ calls) (c.note_replayed.ensures length calls s),
    )
