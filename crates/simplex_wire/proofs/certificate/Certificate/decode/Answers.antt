use Rattle.std.proofs.Common.{ap, subst, ◌∙◌, arith}
use Rattle.simplex_wire.specs.Fits.{FitsCertificate}
use Rattle.simplex_wire.specs.Format.{whole, IsUnlessMemory}
use Rattle.simplex_wire.specs.Message.{certificate}
use Rattle.simplex_wire.proofs.Formats.{is_found_unless, whole_again}
use Rattle.simplex_wire.proofs.Certificates.{certificate_is}
use Rattle.simplex_wire.proofs.certificate.Certificate.decode.Goals as goal

pub returns-clause-found : goal.returns-clause-found
returns-clause-found c = is_found_unless certificate FitsCertificate certificate_is c.args.bytes.now c.whole_certificate.result (λ i. omega (arith, c.type_inv.bytes i)) c.whole_certificate.ensures

pub returns-clause-only : goal.returns-clause-only
returns-clause-only c = λ v fits e. subst (λ read. IsUnlessMemory c.whole_certificate.result read) (ap (whole certificate) e ∙ whole_again certificate FitsCertificate certificate_is v fits) c.whole_certificate.ensures
