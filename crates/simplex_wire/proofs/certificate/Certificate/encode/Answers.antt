use Rattle.std.proofs.Common.{ap, ◌∙◌}
use Rattle.simplex_wire.specs.Fits.{FitsCertificate}
use Rattle.simplex_wire.specs.Format.{whole}
use Rattle.simplex_wire.specs.Message.{certificate}
use Rattle.simplex_wire.proofs.Formats.{whole_again}
use Rattle.simplex_wire.proofs.Certificates.{certificate_is}
use Rattle.simplex_wire.proofs.certificate.Certificate.encode.Goals as goal

pub returns-clause-again : goal.returns-clause-again
returns-clause-again c = ap (whole certificate) (rw c.in_ok-out.ensures.items at c.in_ok-push.ensures.spelled) ∙ whole_again certificate FitsCertificate certificate_is c.args.self.now c.in_ok-push.ensures.fits
