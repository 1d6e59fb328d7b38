use Rattle.std.proofs.Common.{arith}
use Rattle.std.proofs.lemmas.Grind.{common_steps}
use Rattle.model_audit.specs.Taking.{learned, touched}
use Rattle.simplex_due.proofs.reading.read_certificate.Goals as goal

pub returns-then-not-admits_certificate : goal.returns-then-not-admits_certificate
unfolding learned touched
returns-then-not-admits_certificate c = record {
  learns = λ made known now k. grind (arith, common_steps, c.admits_certificate.ensures made known k);
  touches = λ made known k. grind (arith, common_steps, c.admits_certificate.ensures made known k);
}

pub returns : goal.returns
unfolding learned touched
returns c = record {
  learns = λ made known now k. grind (arith, common_steps, c.admits_certificate.ensures made known k);
  touches = λ made known k. grind (arith, common_steps, c.admits_certificate.ensures made known k);
}
