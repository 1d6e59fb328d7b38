-- Which node a reader follows, and through which entries.
use Rattle.std.specs.Prelude.{◌≡◌, ◌∷◌, ℕ, true, List, Option, None}
use Rattle.simplex_values.specs.declared.proposal.Subject.{Subject}
use Rattle.simplex_wire.specs.declared.attestation.Attestation.{Attestation}
use Rattle.simplex_messages.specs.declared.step.Stop.{Stop}
use Rattle.simplex_transcript.specs.declared.event.Event.TheVariants as events
use Rattle.simplex_transcript.specs.declared.event.StepSource.{StepSource}
use Rattle.simplex_transcript.specs.declared.node.Node.{Node}
use Rattle.model_rules.specs.declared.request.Asked.{Asked}
use Rattle.model_run.specs.Life.{Noted}
use Rattle.model_run.specs.Members.{rules_of}
use Rattle.model_run.specs.Setting.{Setting}
use Rattle.model_audit.specs.declared.record.AuditEntry.{AuditEntry}
use Rattle.model_audit.specs.declared.record.AuditTook.{AuditTook}
use Rattle.model_audit.specs.declared.record.AuditTook.TheVariants as taken
use Rattle.model_audit.specs.Reading.{rules_at, read}
use Rattle.model_audit.specs.Rebuilt.{rebuilt, rebuilt_entry}
use Rattle.model_audit.specs.Running.{runs_at, asked_at, is_done}
use Rattle.model_audit.specs.VotesDue.{votes_at}
use Rattle.simplex_known.specs.Knows.{Knows, AreRulesOf}
use Rattle.simplex_due.specs.declared.due.Due.{Due}
use Rattle.simplex_due.specs.Due.{votes_in}
use Rattle.simplex_reader.specs.declared.reader.Reader.{Reader}

-- its rules are the node's; of a node that runs what it knows is kept, and of each what its journal holds
pub record Follows (reader : Reader) (setting : Setting) (before : List Noted) (node : Node) : Type 0 where
  pub rules : AreRulesOf (rules_at setting node (read setting before node)) reader.rules
  pub known : runs_at before node ≡ true → Knows reader.known (rules_at setting node (read setting before node)) (read setting before node).known
  pub sections : reader.stored ≡ (read setting before node).sections

-- ---- a step

-- the request that an answer is for
abbrev pub request_of : List Noted → AuditTook → Option Asked
request_of before (taken.Request at answer) = asked_at before at
request_of before took = None

-- a node that runs and signs so makes the step, in which it took an answer to this request, if it took one
pub record IsMadeBy (node : Node) (attests : Subject → Option Attestation) (setting : Setting) (before : List Noted) (entry : AuditEntry) (asked : Option Asked) : Type 0 where
  pub runs : runs_at before node ≡ true
  pub signs : (start : ℕ) → attests ≡ (rules_of setting node.member start).signs
  pub request : asked ≡ request_of before entry.took

-- whichever node was followed and made the step, it is followed behind it; and where the step is whole these votes were due
pub record TakesStep (old new : Reader) (attests : Subject → Option Attestation) (source : StepSource) (stop : Stop) (entry : AuditEntry) (asked : Option Asked) (due : Due) : Type 0 where
  pub follows : (setting : Setting) (before : List Noted) (node : Node) → Follows old setting before node → IsMadeBy node attests setting before entry asked
      → Follows new setting (rebuilt (events.Step node source stop) entry ∷ before) node
  pub votes : (setting : Setting) (before : List Noted) (node : Node) → Follows old setting before node → IsMadeBy node attests setting before entry asked
      → is_done entry.outcome ≡ true → votes_in due ≡ votes_at setting before (rebuilt_entry entry) node source
