use Rattle.std.proofs.Common.{◌∷◌, arith}
use Rattle.std.proofs.lemmas.Grind.{common_steps}
use Rattle.simplex_wire.specs.declared.certificate.Certificate.TheVariants as certificates
use Rattle.model_rules.specs.Repair.{Updated}
use Rattle.simplex_repair.specs.Stands.{StandsFor}
use Rattle.simplex_repair.proofs.Leads.{nullification_effects}
use Rattle.simplex_repair.proofs.repair.RepairState.take_nullification.Goals as goal

pub returns-clause-effects : goal.returns-clause-effects
unfolding StandsFor
returns-clause-effects c = λ length calls s.
    grind (
      arith,
      common_steps,
      nullification_effects length calls c.args.it.now,
      s.terms,
      s.floor,
      s.top,
      s.nullified c.args.it.now.round.view,
      c.asked_to-behind.ensures length calls s,
      (c.in_ok-note_nullification.ensures length calls s).floor,
      c.in_ok-fetch.ensures length (Updated (certificates.Nullification c.args.it.now) ∷ calls) (c.in_ok-note_nullification.ensures length calls s),
    )
