-- Which events may make a forgery.
use Rattle.std.specs.Prelude.{ℕ, ◌≡◌, Bool, true, false, List, ◌∷◌, None, Ok}
use Rattle.simplex_transcript.specs.declared.event.Event.{Event}
use Rattle.simplex_transcript.specs.declared.event.Event.TheVariants as events
use Rattle.simplex_transcript.specs.declared.setup.Setup.{Setup}
use Rattle.simplex_transcript.specs.declared.setup.MemberKind.{MemberKind}
use Rattle.simplex_transcript.specs.declared.setup.MemberKind.TheVariants as kinds
use Rattle.simplex_types.specs.Keyed.{signature_of}
use Rattle.model_faults.specs.Impersonator.{another_number}
use Rattle.model_run.specs.Setting.{Setting}
use Rattle.model_run.specs.Forged.{Signed}
use Rattle.model_run.specs.Kinds.{is_of_kind}
use Rattle.model_run.specs.Life.{Noted}
use Rattle.model_run.specs.Setups.{first_bad}
use Rattle.model_run.specs.Entries.{made_of}
use Rattle.law_run.specs.Histories.{IsRun}
use Rattle.law_run.specs.Fitting.{AreTyped}

-- it votes under another member's number
abbrev pub is_impersonator : MemberKind → Bool
is_impersonator kinds.Impersonator = true
is_impersonator _ = false

-- bytes are injected, or an impersonator hears a packet
abbrev pub may_forge : Setup → Event → Bool
may_forge setup (events.Inject member channel to bytes) = true
may_forge setup (events.Deliver node packet) = is_of_kind is_impersonator setup node.member
may_forge setup _ = false

-- What one more event makes of the entries of a run, before any test of what is forged: the setup keeps its limits, so few
-- members are faulty, and the values of all entries keep to their types
pub record IsNext (setting : Setting) (before : List Noted) (event : Event) (noted : Noted) : Type 0 where
  pub limits : first_bad setting.setup ≡ None
  pub ran : IsRun setting before
  pub made : made_of setting before event ≡ Ok noted
  pub typed : AreTyped (noted ∷ before)

-- whatever comes next in a run, at an event that may make no forgery, this holds of it
abbrev pub WhereNoneForges : (Setting → List Noted → Event → Noted → Type 0) → Type 0
WhereNoneForges Says =
    (setting : Setting) (before : List Noted) (event : Event) (noted : Noted)
    → IsNext setting before event noted → may_forge setting.setup event ≡ false → Says setting before event noted

-- The signature is one under the number that the member takes, and on this subject both members have the same one
abbrev pub HaveOneSignature : Setup → ℕ → Signed → Type 0
HaveOneSignature setup member s =
    (s.attestation.signer ≡ another_number member)
    × (signature_of setup.key_base member s.subject ≡ signature_of setup.key_base s.attestation.signer s.subject)
