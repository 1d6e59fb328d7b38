-- What holds of a run of many members.
use Rattle.std.specs.Prelude.{◌≡◌, List, [], Contains, Ok}
use Rattle.simplex_values.specs.declared.proposal.Proposal.{Proposal}
use Rattle.simplex_wire.specs.declared.certificate.Certificate.{Certificate}
use Rattle.simplex_wire.specs.Fields.{subject_round, certificate_subject}
use Rattle.simplex_transcript.specs.declared.event.Event.{Event}
use Rattle.simplex_transcript.specs.declared.node.Node.{Node}
use Rattle.simplex_transcript.specs.declared.setup.Setup.{Setup}
use Rattle.model_run.specs.Setting.{Setting}
use Rattle.model_run.specs.Life.{Noted}
use Rattle.model_run.specs.Run as runs
use Rattle.law_agreement.specs.Conflict.{Conflict}
use Rattle.law_run.specs.Faulty.{faulty_of}
use Rattle.law_run.specs.Histories.{AreStored, AreFloors}
use Rattle.law_run.specs.Ruled.{AreByRule}
use Rattle.law_run.specs.Backed.{IsVerifying, AreBacked, StandsIn}
use Rattle.law_run.specs.Blame.{AreBlameless, NoneBarred}
use Rattle.law_run.specs.Founded.{IsOn, IsNotarized}
use Rattle.law_run.specs.Genuine.{AreGenuine}
use Rattle.law_run.specs.WellSent.{AllWellSent}

-- one of the entries has the certificate, and it verifies
abbrev pub Stands : Setup → List Noted → Certificate → Type 0
Stands setup noted c = StandsIn noted c × IsVerifying setup c

-- no two certificates of the run conflict
abbrev pub AgreeAll : Setup → List Noted → Type 0
AgreeAll setup noted =
    (a b : Certificate) → Stands setup noted a → Stands setup noted b
    → ¬ (Conflict setup.term (certificate_subject a) (certificate_subject b))

-- each certificate of the run names the setup's epoch
abbrev pub AllName : Setup → List Noted → Type 0
AllName setup noted = (c : Certificate) → Stands setup noted c
    → (subject_round (certificate_subject c)).epoch ≡ setup.epoch

-- each proposal that a certificate of the run names was notarized by a member that is not faulty
abbrev pub AreFounded : Setup → List Noted → Type 0
AreFounded setup noted = (c : Certificate) (p : Proposal) → Stands setup noted c
    → IsOn (certificate_subject c) p → IsNotarized setup noted p

-- it holds of each node of a member that is not faulty
abbrev pub EachHonest : Setup → (Node → Type 0) → Type 0
EachHonest setup P = (node : Node) → ¬ (Contains (faulty_of setup) node.member) → P node

-- Each signer of a certificate that verifies is faulty or had sent the signed vote; what an engine says for a certificate
-- verifies; no two certificates that verify conflict, and each names the setup's epoch; an honest member notarized each
-- proposal that they name; it signs a vote and stores it before it sends it, and sends in each whole step exactly the votes
-- that the rules give; over all its lives each of its votes may stand by itself and may follow all that it sent before, by
-- what had come to it; no evidence names it; no start is at a finalization of view 0; and no node blocks it for what no honest
-- member does
pub record IsSafe (setting : Setting) (noted : List Noted) : Type 0 where
  pub backed : AreBacked setting.setup noted
  pub genuine : AreGenuine setting.setup noted
  pub agrees : AgreeAll setting.setup noted
  pub named : AllName setting.setup noted
  pub founded : AreFounded setting.setup noted
  pub stored : EachHonest setting.setup (λ node. AreStored setting node noted)
  pub ruled : EachHonest setting.setup (λ node. AreByRule setting node noted)
  pub ordered : AllWellSent setting.setup noted
  pub blameless : AreBlameless setting.setup noted
  pub above : AreFloors noted
  pub unbarred : NoneBarred setting.setup noted

-- so it is with the entries that these events make
abbrev pub RunsSafely : Setting → List Event → Type 0
RunsSafely setting events = (noted : List Noted) → runs.run setting [] events ≡ Ok noted → IsSafe setting noted
