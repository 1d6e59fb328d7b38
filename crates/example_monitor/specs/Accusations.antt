-- Whom the evidence of a run accuses.
use Rattle.std.specs.Prelude.{ℕ, ◌≡◌, ◌==◌, ◌++◌, false, List, [], ◌∷◌, Option, Some, None, All, Contains, filter_map}
use Rattle.simplex.specs.declared.types.Activity.{Activity}
use Rattle.simplex.specs.declared.types.Activity.TheVariants as activities
use Rattle.simplex.specs.declared.actors.Call.{Call}
use Rattle.simplex.specs.declared.actors.Call.TheVariants as calls
use Rattle.simplex.specs.declared.Entry.{Entry}
use Rattle.simplex.specs.declared.Setup.{Setup}
use Rattle.simplex.specs.Faulty.{faulty_of}
use Rattle.example_monitor.specs.declared.accusation.Accusation.{Accusation}

-- the member that evidence names
abbrev pub named_by : Activity → Option ℕ
named_by (activities.ConflictingNotarize e) = Some e.first.attestation.signer
named_by (activities.ConflictingFinalize e) = Some e.first.attestation.signer
named_by (activities.NullifyFinalize e) = Some e.finalize.attestation.signer
named_by _ = None

-- what the call accuses a member of, where it reports evidence in this event
abbrev pub accusing : ℕ → Option ℕ → Option Accusation
accusing event (Some member) = Some (record { event = event; member = member })
accusing event None = None

abbrev pub accusation_by : ℕ → Call → Option Accusation
accusation_by event (calls.Report activity) = accusing event (named_by activity)
accusation_by event _ = None

-- the accusations of these entries, in order
abbrev pub accusations_of : List Entry → List Accusation
accusations_of [] = []
accusations_of (entry ∷ entries) = filter_map (accusation_by entry.event) entry.calls ++ accusations_of entries

-- none of them accuses the member
abbrev pub Spares : ℕ → List Accusation → Type 0
Spares member accusations = All (λ accusation. (accusation.member == member) ≡ false) accusations

-- whoever is accused is faulty
abbrev pub SparesHonest : Setup → List Accusation → Type 0
SparesHonest setup accusations = (member : ℕ) → ¬ (Contains (faulty_of setup) member) → Spares member accusations
