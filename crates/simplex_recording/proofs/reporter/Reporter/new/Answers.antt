use Rattle.std.proofs.Common.{refl}
use Rattle.simplex_recording.specs.Recording.{recorded, invalid_votes_of, invalid_certificates_of}
use Rattle.simplex_recording.specs.Stands.{StandsFor}
use Rattle.simplex_recording.proofs.reporter.Reporter.new.Goals as goal

pub returns : goal.returns
unfolding StandsFor recorded invalid_votes_of invalid_certificates_of
returns g c = (refl, c.requires, c.new.ensures _, refl, refl)
