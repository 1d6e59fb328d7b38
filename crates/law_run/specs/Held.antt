-- That the certificates which a node holds verify and are backed.
use Rattle.std.specs.Prelude.{List, Contains}
use Rattle.simplex_wire.specs.declared.artifact.Artifact.{Artifact}
use Rattle.simplex_wire.specs.declared.certificate.Certificate.{Certificate}
use Rattle.simplex_journal.specs.Journal.{replayed}
use Rattle.simplex_transcript.specs.declared.node.Node.{Node}
use Rattle.simplex_transcript.specs.declared.setup.Setup.{Setup}
use Rattle.model_run.specs.Setting.{Setting}
use Rattle.model_run.specs.Life.{Noted, life_in, sections_in}
use Rattle.law_run.specs.Sayings.{InRecord, InKnown}
use Rattle.law_run.specs.Backed.{IsVerifying, IsBackedIn}
use Rattle.law_run.specs.Keeping.{IfRuns}

-- it verifies, and each signer is faulty or sent the signed vote
abbrev pub IsSound : Setup → List Noted → Certificate → Type 0
IsSound setup noted c = IsVerifying setup c × IsBackedIn setup noted c

-- so is each in a record of the node's journal, and each that its voter knows while it runs
pub record HoldsSound (setting : Setting) (noted : List Noted) (node : Node) : Type 0 where
  pub records : (a : Artifact) → Contains (replayed (sections_in (life_in setting noted node))) a
      → InRecord (IsSound setting.setup noted) a
  pub known : IfRuns (λ sections known. InKnown (IsSound setting.setup noted) known) (life_in setting noted node)
