use Rattle.std.proofs.Common.{ap, subst, ◌∙◌, arith}
use Rattle.simplex_wire.specs.Artifact.{artifact, FitsArtifact}
use Rattle.simplex_wire.specs.Format.{whole, IsUnlessMemory}
use Rattle.simplex_wire.proofs.Formats.{is_found_unless, whole_again}
use Rattle.simplex_wire.proofs.Artifacts.{artifact_is}
use Rattle.simplex_wire.proofs.artifact.Artifact.decode.Goals as goal

pub returns-clause-found : goal.returns-clause-found
returns-clause-found c = is_found_unless artifact FitsArtifact artifact_is c.args.bytes.now c.whole_artifact.result (λ i. omega (arith, c.type_inv.bytes i)) c.whole_artifact.ensures

pub returns-clause-only : goal.returns-clause-only
returns-clause-only c = λ v fits e. subst (λ read. IsUnlessMemory c.whole_artifact.result read) (ap (whole artifact) e ∙ whole_again artifact FitsArtifact artifact_is v fits) c.whole_artifact.ensures
