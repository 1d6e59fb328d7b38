use Rattle.std.proofs.Common.{◌∷◌, arith}
use Rattle.std.proofs.lemmas.Grind.{common_steps}
use Rattle.simplex_wire.specs.declared.certificate.Certificate.TheVariants as certificates
use Rattle.model_rules.specs.Repair.{Updated}
use Rattle.simplex_repair.specs.Stands.{StandsFor}
use Rattle.simplex_repair.proofs.Leads.{notarization_effects}
use Rattle.simplex_repair.proofs.repair.RepairState.take_notarization.Goals as goal

pub returns-clause-effects : goal.returns-clause-effects
unfolding StandsFor
returns-clause-effects c = λ length calls s.
    grind (
      arith,
      common_steps,
      notarization_effects length calls c.args.it.now,
      s.terms,
      s.floor,
      s.top,
      s.notarized c.args.it.now.proposal.round.view,
      c.asked_to-behind.ensures length calls s,
      (c.in_ok-note_notarization.ensures length calls s).floor,
      c.in_ok-fetch.ensures length (Updated (certificates.Notarization c.args.it.now) ∷ calls) (c.in_ok-note_notarization.ensures length calls s),
    )
