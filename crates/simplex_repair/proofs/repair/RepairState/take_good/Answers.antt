use Rattle.std.proofs.Common.{◌∷◌, true, arith}
use Rattle.std.proofs.lemmas.Grind.{common_steps}
use Rattle.model_rules.specs.Repair.{Certified}
use Rattle.simplex_repair.specs.Stands.{StandsFor}
use Rattle.simplex_repair.proofs.Leads.{good_effects}
use Rattle.simplex_repair.proofs.repair.RepairState.take_good.Goals as goal

pub returns-clause-effects : goal.returns-clause-effects
unfolding StandsFor
returns-clause-effects c = λ length calls s.
    grind (
      arith,
      common_steps,
      good_effects length calls c.args.it,
      s.terms,
      s.floor,
      s.top,
      s.top_fits,
      s.notarized c.args.it.proposal.round.view,
      c.asked_to-behind.ensures length calls s,
      (c.in_ok-note_good.ensures length calls s).floor,
      c.in_ok-fetch.ensures length (Certified c.args.it true ∷ calls) (c.in_ok-note_good.ensures length calls s),
    )
