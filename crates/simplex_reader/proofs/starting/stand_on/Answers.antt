use Rattle.std.proofs.Common.{Option, sym, subst}
use Rattle.std.proofs.lemmas.Result.{on_ok_weaker}
use Rattle.simplex_wire.specs.declared.certificate.Finalization.{Finalization}
use Rattle.simplex_reader.specs.Starting.{Stands}
use Rattle.simplex_reader.proofs.Started.{stands_on_genesis}
use Rattle.simplex_reader.proofs.starting.stand_on.Goals as goal

pub returns-in-None : goal.returns-in-None
returns-in-None c =
    subst (λ (floor : Option Finalization). Stands c.args.known.now c.args.known.now floor) (sym c.in-None.is) (stands_on_genesis c.args.known.now)

pub returns-in-Some : goal.returns-in-Some
returns-in-Some c =
    on_ok_weaker c.stand_on.result
    (λ did. subst (λ (floor : Option Finalization). Stands c.args.known.now c.stand_on.new.self floor) (sym c.in-Some.is) (λ made known genesis now k. did made known now k))
    c.stand_on.ensures
