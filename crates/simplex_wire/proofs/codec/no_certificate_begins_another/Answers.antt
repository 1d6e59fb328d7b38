use Rattle.simplex_wire.specs.Fits.{FitsCertificate}
use Rattle.simplex_wire.specs.Message.{certificate}
use Rattle.simplex_wire.proofs.Formats.{alone}
use Rattle.simplex_wire.proofs.Certificates.{certificate_is}
use Rattle.simplex_wire.proofs.codec.no_certificate_begins_another.Goals as goal

pub returns : goal.returns
returns c = λ v w more fv fw e. alone certificate FitsCertificate certificate_is v w more fv fw e
