-- What a step of an entry took, and what comes of it.
use Rattle.std.specs.Prelude.{◌≡◌, ℕ, Bool, true, false, List, [], Option, Some, None, if◌then◌else◌}
use Rattle.std.specs.Option.{option_map, option_map_or}
use Rattle.simplex_values.specs.declared.proposal.Subject.{Subject}
use Rattle.simplex_wire.specs.declared.attestation.Attestation.{Attestation}
use Rattle.simplex_wire.specs.declared.certificate.Certificate.{Certificate}
use Rattle.simplex_wire.specs.declared.vote.Vote.{Vote}
use Rattle.simplex_messages.specs.declared.call.Call.{Call}
use Rattle.simplex_messages.specs.declared.voter.Message.TheVariants as mail
use Rattle.simplex_transcript.specs.declared.event.StepSource.{StepSource}
use Rattle.simplex_transcript.specs.declared.event.StepSource.TheVariants as sources
use Rattle.model_rules.specs.declared.request.Asked.{Asked}
use Rattle.model_rules.specs.Known.{Made, Fact}
use Rattle.model_audit.specs.declared.record.AuditTook.{AuditTook}
use Rattle.model_audit.specs.declared.record.AuditTook.TheVariants as taken
use Rattle.model_audit.specs.JournalCalls.{journal_calls}
use Rattle.model_audit.specs.Reading.{reply}
use Rattle.model_audit.specs.Taking.{Taking, Deadline, Mail, acted, votes_due}
use Rattle.simplex_known.specs.declared.known.Known.{Known}
use Rattle.simplex_known.specs.Knows.{Knows}
use Rattle.simplex_due.specs.declared.due.Due.{Due}
use Rattle.simplex_due.specs.Due.{votes_in}

-- ---- what is taken

abbrev pub is_timer : StepSource → Bool
is_timer sources.Timer = true
is_timer source = false

abbrev pub is_voter : StepSource → Bool
is_voter sources.Voter = true
is_voter source = false

abbrev pub taking_if : Bool → Taking → Option Taking
taking_if test taking = if test then Some taking else None

-- where this is the request that it took an answer to
unfoldable pub taking_by : StepSource → AuditTook → Option Asked → Option Taking
taking_by source taken.Timer asked = taking_if (is_timer source) Deadline
taking_by source (taken.Proposal proposal) asked = taking_if (is_voter source) (Mail (mail.Proposal proposal))
taking_by source (taken.Timeout round reason) asked = taking_if (is_voter source) (Mail (mail.Timeout round reason))
taking_by source (taken.Certificate certificate) asked = taking_if (is_voter source) (Mail (mail.Verified certificate))
taking_by source (taken.Request at answer) asked = option_map (reply answer) asked
taking_by source took asked = None

-- ---- what comes of it. Where nothing is taken, nothing is learned, no vote is due, and the rules make no call

abbrev pub acted_if : Made → ℕ → List Fact → List Certificate → Option Taking → List Fact
acted_if made now known added None = known
acted_if made now known added (Some taking) = acted made now known added taking

abbrev pub due_if : Made → ℕ → List Fact → List Certificate → Option Taking → List Vote
due_if made now known added taking = option_map_or (votes_due made now known added) taking []

abbrev pub ruled_if : Made → ℕ → List Fact → Option Taking → List Call
ruled_if made now known None = []
ruled_if made now known (Some taking) = journal_calls made now known taking

-- behind a step that took this and added these certificates, whatever facts were kept, those are that come of it, and these votes
-- are due
pub record Acts (old new : Known) (attests : Subject → Option Attestation) (added : List Certificate) (taking : Option Taking) (due : Due) : Type 0 where
  pub knows : (made : Made) (known : List Fact) (now : ℕ) → Knows old made known → Knows new made (acted_if made now known added taking)
  pub votes : (made : Made) (known : List Fact) (now : ℕ) → Knows old made known → attests ≡ made.signs
      → votes_in due ≡ due_if made now known added taking
