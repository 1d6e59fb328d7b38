-- Whom the reports of a run do not blame, and whom its blocks do not bar.
use Rattle.std.specs.Prelude.{◌≡◌, ℕ, ◌==◌, ◌&&◌, Bool, true, false, List, [], ◌∷◌, All, Contains}
use Rattle.simplex_types.specs.declared.cause.BlockCause.{BlockCause}
use Rattle.simplex_types.specs.declared.cause.BlockCause.TheVariants.{LeaderConflict, InvalidResponse}
use Rattle.simplex_messages.specs.declared.call.Call.{Call}
use Rattle.simplex_messages.specs.declared.call.Call.TheVariants as calls
use Rattle.simplex_transcript.specs.declared.entry.Entry.{Entry}
use Rattle.simplex_transcript.specs.declared.setup.Setup.{Setup}
use Rattle.model_run.specs.Life.{Noted}
use Rattle.law_run.specs.Faulty.{faulty_of}
use Rattle.law_member.specs.Evidence.{BlameNot}

-- the entry reports no evidence that names a member that is not faulty
abbrev pub BlamesNoHonest : Setup → Entry → Type 0
BlamesNoHonest setup entry = (member : ℕ) → ¬ (Contains (faulty_of setup) member) → BlameNot member entry.calls

-- no entry reports evidence that names a member that is not faulty
unfoldable pub AreBlameless : Setup → List Noted → Type 0
AreBlameless setup [] = Unit {0}
AreBlameless setup (noted ∷ before) = BlamesNoHonest setup noted.entry × AreBlameless setup before

-- whether the cause tells of what no honest member does. A leader may be contradicted by what others signed, and an answer
-- may come late, to a request from before a restart
abbrev pub tells_of_fault : BlockCause → Bool
tells_of_fault LeaderConflict = false
tells_of_fault InvalidResponse = false
tells_of_fault _ = true

-- whether the call blocks the member for such a cause
abbrev pub bars : Call → ℕ → Bool
bars (calls.Block blocked cause) member = blocked == member && tells_of_fault cause
bars _ member = false

-- none of these calls does
abbrev pub BarNot : ℕ → List Call → Type 0
BarNot member made = All (λ call. bars call member ≡ false) made

-- no entry blocks a member that is not faulty for such a cause
unfoldable pub NoneBarred : Setup → List Noted → Type 0
NoneBarred setup [] = Unit {0}
NoneBarred setup (noted ∷ before) =
    ((member : ℕ) → ¬ (Contains (faulty_of setup) member) → BarNot member noted.entry.calls) × NoneBarred setup before
