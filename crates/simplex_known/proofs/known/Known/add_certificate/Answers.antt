use Rattle.std.proofs.Common.{sym, subst}
use Rattle.std.proofs.lemmas.Result.{on_ok_weaker}
use Rattle.simplex_wire.specs.declared.certificate.Certificate.{Certificate}
use Rattle.model_rules.specs.Known.{Added}
use Rattle.simplex_known.specs.Knows.{Learns}
use Rattle.simplex_known.proofs.known.Known.add_certificate.Goals as goal

pub returns-in-Notarization : goal.returns-in-Notarization
returns-in-Notarization c =
    on_ok_weaker c.add_notarization.result
    (λ did now.
    subst (λ (certificate : Certificate). Learns c.args.self.now c.add_notarization.new.self (Added certificate now)) (sym c.in-Notarization.is) (did now))
    c.add_notarization.ensures

pub returns-in-Nullification : goal.returns-in-Nullification
returns-in-Nullification c =
    on_ok_weaker c.add_nullification.result
    (λ did now.
    subst (λ (certificate : Certificate). Learns c.args.self.now c.add_nullification.new.self (Added certificate now)) (sym c.in-Nullification.is) (did now))
    c.add_nullification.ensures

pub returns-in-Finalization : goal.returns-in-Finalization
returns-in-Finalization c =
    on_ok_weaker c.add_finalization.result
    (λ did now.
    subst (λ (certificate : Certificate). Learns c.args.self.now c.add_finalization.new.self (Added certificate now)) (sym c.in-Finalization.is) (did now))
    c.add_finalization.ensures
