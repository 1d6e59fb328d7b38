use Rattle.simplex_wire.specs.Artifact.{artifact, FitsArtifact}
use Rattle.simplex_wire.proofs.Formats.{alone}
use Rattle.simplex_wire.proofs.Artifacts.{artifact_is}
use Rattle.simplex_wire.proofs.codec.no_artifact_begins_another.Goals as goal

pub returns : goal.returns
returns c = λ v w more fv fw e. alone artifact FitsArtifact artifact_is v w more fv fw e
