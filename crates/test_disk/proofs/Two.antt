-- Two records of one section.
use Rattle.std.proofs.Common.{◌≡◌, ℕ, List, [], ◌∷◌, Option, None, Some, refl, arith}
use Rattle.std.proofs.lemmas.Bool.Decides.{nat_tests}
use Rattle.std.proofs.lemmas.Grind.{common_steps}
use Rattle.simplex_wire.specs.declared.artifact.Artifact.{Artifact}
use Rattle.simplex_journal.specs.Journal.{Section, appended, appended_section, opened_section, synced_at, synced_section}
use Rattle.simplex_disk.specs.Index.{section_numbered, IsLeaving}
use Rattle.simplex_disk.specs.Goes.{LeavesNoMore}
use Rattle.simplex_disk.specs.Opening.{AreRead}
use Rattle.simplex_disk.specs.Memory.{file_in}

-- There is no file, so there is no section.
pub no_sections : (sections : List Section) → AreRead (file_in []) sections → sections ≡ []
unfolding section_numbered
no_sections [] read = refl
no_sections (s ∷ rest) read =
    let none : section_numbered s.number (s ∷ rest) ≡ None = read.each s.number in
    absurd (grind (arith, common_steps, nat_tests))

pub first_synced : (a : Artifact) → synced_at 1 (appended 1 a []) ≡ record { number = 1; synced = a ∷ []; pending = [] } ∷ []
unfolding appended opened_section synced_at synced_section
first_synced a = refl

pub second_appended : (a b : Artifact) → appended 1 b (record { number = 1; synced = a ∷ []; pending = [] } ∷ []) ≡ record { number = 1; synced = a ∷ []; pending = b ∷ [] } ∷ []
unfolding appended appended_section
second_appended a b = refl

-- Nothing is leaving where nothing more is.
pub none_more : (leaving now : Option ℕ) → leaving ≡ None → LeavesNoMore leaving now → now ≡ None
none_more leaving None none less = refl
none_more leaving (Some n) none less = absurd (grind_less leaving n none (less n refl))
  where
    grind_less : (leaving : Option ℕ) (n : ℕ) → leaving ≡ None → IsLeaving leaving n → ⊥
    grind_less None n none leaves = leaves
    grind_less (Some m) n none leaves = cc
