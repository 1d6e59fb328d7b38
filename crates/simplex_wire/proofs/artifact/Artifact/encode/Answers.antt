use Rattle.std.proofs.Common.{ap, ◌∙◌}
use Rattle.simplex_wire.specs.Artifact.{artifact, FitsArtifact}
use Rattle.simplex_wire.specs.Format.{whole}
use Rattle.simplex_wire.proofs.Formats.{whole_again}
use Rattle.simplex_wire.proofs.Artifacts.{artifact_is}
use Rattle.simplex_wire.proofs.artifact.Artifact.encode.Goals as goal

pub returns-clause-again : goal.returns-clause-again
returns-clause-again c = ap (whole artifact) (rw c.in_ok-out.ensures.items at c.in_ok-push.ensures.spelled) ∙ whole_again artifact FitsArtifact artifact_is c.args.self.now c.in_ok-push.ensures.fits
