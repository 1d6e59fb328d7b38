-- How many records the rules append in a step, and which prune they make behind them.
use Rattle.std.specs.Prelude.{◌≡◌, ◌+◌, ◌<◌, ◌==◌, nat_lt, ℕ, Bool, List, [], length, Option, Some, None, if◌then◌else◌}
use Rattle.simplex_values.specs.declared.proposal.Subject.{Subject}
use Rattle.simplex_wire.specs.declared.attestation.Attestation.{Attestation}
use Rattle.simplex_wire.specs.declared.artifact.Artifact.{Artifact}
use Rattle.simplex_wire.specs.declared.certificate.Certificate.{Certificate}
use Rattle.simplex_messages.specs.declared.voter.Message.TheVariants as mail
use Rattle.model_rules.specs.Known.{Made, Fact, has_nullified}
use Rattle.model_rules.specs.Views.{current_of}
use Rattle.model_steps.specs.Voter.{adds}
use Rattle.model_audit.specs.JournalCalls.{added_by, records_made}
use Rattle.model_audit.specs.Taking.{Taking, Deadline, Mail, acted, given_up}
use Rattle.simplex_known.specs.declared.known.Known.{Known}
use Rattle.simplex_known.specs.Knows.{Knows}
use Rattle.simplex_reader.specs.declared.sections.RuledPrune.{RuledPrune}

-- where nothing is taken, nothing is appended and nothing learned
abbrev pub records_if : Made → ℕ → List Fact → Option Taking → List Artifact
records_if made now facts None = []
records_if made now facts (Some taking) = records_made made now facts taking

-- what is known behind what the rules add, but for the nullify of a deadline
abbrev pub known_if : Made → ℕ → List Fact → Option Taking → List Fact
known_if made now facts None = facts
known_if made now facts (Some taking) = acted made now facts (added_by made facts taking) taking

-- behind a step that took this, whatever facts were kept, those are that come of what the rules add, and so many records are appended
pub record Counts (old new : Known) (attests : Subject → Option Attestation) (taking : Option Taking) (records : ℕ) : Type 0 where
  pub few : records < 16
  pub knows : (made : Made) (facts : List Fact) (now : ℕ) → Knows old made facts → Knows new made (known_if made now facts taking)
  pub counts : (made : Made) (facts : List Fact) (now : ℕ) → Knows old made facts → attests ≡ made.signs → records ≡ length (records_if made now facts taking)

-- so it is where the rules add the certificate, or do not
pub record CountsIf (added : Bool) (old new : Known) (attests : Subject → Option Attestation) (certificate : Certificate) (records : ℕ) : Type 0 where
  pub few : records < 16
  pub knows : (made : Made) (facts : List Fact) (now : ℕ) → adds made facts certificate ≡ added → Knows old made facts
      → Knows new made (known_if made now facts (Some (Mail (mail.Verified certificate))))
  pub counts : (made : Made) (facts : List Fact) (now : ℕ) → adds made facts certificate ≡ added → Knows old made facts → attests ≡ made.signs
      → records ≡ length (records_if made now facts (Some (Mail (mail.Verified certificate))))

-- how many nullifies are due at a deadline that were appended before
abbrev pub repeats : Made → List Fact → ℕ
repeats made facts = if has_nullified facts (current_of made facts) then length (given_up made facts Deadline) else 0

-- the least active view rises, behind so many records and the sync of their section
abbrev pub prune_behind : ℕ → ℕ → ℕ → Option RuledPrune
prune_behind records before after =
    if nat_lt before after then Some (record { number = records + (if records == 0 then 0 else 1) + 1; least = after }) else None
