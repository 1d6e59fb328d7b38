-- Which histories a round stands for.
use Rattle.std.specs.Prelude.{◌≡◌, List, ◌∷◌, ◌++◌, ◌⊎◌}
use Rattle.simplex_round.specs.declared.batch.RoundOut.{RoundOut}
use Rattle.simplex_round.specs.Known.{Made, Known, Standing}
use Rattle.simplex_round.specs.Acceptance.{Heard}
use Rattle.simplex_round.specs.Calls.{Call, known_after}

-- the round stands for the calls that it was given since it was made
unfoldable pub StandsFor : Standing → Made → List Call → Type 0
StandsFor round made calls = round ≡ record { made = made; known = known_after made calls }

-- whatever history the old round stands for, the new one stands for it with the call behind it
abbrev pub Takes : Standing → Standing → Call → Type 0
Takes old new call = (made : Made) (calls : List Call) → StandsFor old made calls → StandsFor new made (call ∷ calls)

-- whatever history the old round stands for, the new one stands for it
abbrev pub Stays : Standing → Standing → Type 0
Stays old new = (made : Made) (calls : List Call) → StandsFor old made calls → StandsFor new made calls

-- whatever history the round stands for, the answer is the rule's
abbrev pub Answers : {R : Type 0} → Standing → (Made → Known → R) → R → Type 0
Answers round rule answer = (made : Made) (calls : List Call)
    → StandsFor round made calls → answer ≡ rule made (known_after made calls)

-- whatever history the round stands for, the rule's reports and blocks are added to what goes out
abbrev pub AddsReports : Standing → RoundOut → RoundOut → (Known → Heard) → Type 0
AddsReports round old new heard =
    (made : Made) (calls : List Call) → StandsFor round made calls
    → new.reports ≡ old.reports ++ (heard (known_after made calls)).reports

abbrev pub AddsBlocks : Standing → RoundOut → RoundOut → (Known → Heard) → Type 0
AddsBlocks round old new heard =
    (made : Made) (calls : List Call) → StandsFor round made calls
    → new.blocks ≡ old.blocks ++ (heard (known_after made calls)).blocks

-- all of the list was added, or nothing
abbrev pub AddsAllOrNothing : {A : Type 0} → List A → List A → List A → Type 0
AddsAllOrNothing added old new = (new ≡ old) ⊎ (new ≡ old ++ added)

-- whatever history the round stands for, of the rule's reports all are added to what goes out or none, and so of its blocks
abbrev pub AddsInPart : Standing → RoundOut → RoundOut → (Known → Heard) → Type 0
AddsInPart round old new heard =
    (made : Made) (calls : List Call) → StandsFor round made calls
    → AddsAllOrNothing (heard (known_after made calls)).reports old.reports new.reports
    × AddsAllOrNothing (heard (known_after made calls)).blocks old.blocks new.blocks
