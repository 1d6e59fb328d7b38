-- When the own nullify of the current view last went out.
use Rattle.std.proofs.Common.{◌≡◌, ℕ, ◌<◌, ◌≤◌, ◌∙◌, nat_lt, Bool, true, false, List, ◌∷◌, Option, None, refl, arith, if◌then◌else◌}
use Rattle.std.proofs.lemmas.Grind.{common_steps}
use Rattle.model_rules.specs.Lists.{last_of}
use Rattle.model_rules.specs.Known.{Made, Fact, Published}
use Rattle.model_rules.specs.Deadline.{published_at}
use Rattle.simplex_state.specs.Progress.{progress_of}

abbrev pub is_published : Fact → Bool
is_published (Published v now) = true
is_published _ = false

false_of_true : {A : Type 0} → true ≡ false → A
false_of_true e = absurd (cc)

-- another fact publishes nothing
pub still_published : (f : Fact) (known : List Fact) (view : ℕ) → is_published f ≡ false → published_at (f ∷ known) view ≡ published_at known view
unfolding published_at last_of
still_published (Published v now) known view other = false_of_true other
still_published _ known view other = refl

-- the current view stays
pub published_same : (made : Made) (f : Fact) (known : List Fact) (published : Option ℕ) → is_published f ≡ false
    → (progress_of made (f ∷ known)).current ≡ (progress_of made known).current
    → published ≡ published_at known (progress_of made known).current
    → published ≡ published_at (f ∷ known) (progress_of made (f ∷ known)).current
published_same made f known published other same is =
    grind (arith, still_published f known (progress_of made (f ∷ known)).current other, same, is)

-- the current view stays, or a later one opens
pub published_moved : (made : Made) (f : Fact) (known : List Fact) (next : ℕ) (before after : Option ℕ) → is_published f ≡ false
    → (progress_of made (f ∷ known)).current ≡ (if nat_lt (progress_of made known).current next then next else (progress_of made known).current)
    → before ≡ published_at known (progress_of made known).current
    → ((v : ℕ) → (progress_of made known).current < v → published_at known v ≡ None)
    → after ≡ (if nat_lt (progress_of made known).current next then None else before)
    → after ≡ published_at (f ∷ known) (progress_of made (f ∷ known)).current
published_moved made f known next before after other moved is none after_is =
    grind (arith, common_steps, still_published f known (progress_of made (f ∷ known)).current other, moved, is, none next, after_is)

pub unpublished_later : (made : Made) (f : Fact) (known : List Fact) → is_published f ≡ false
    → (progress_of made known).current ≤ (progress_of made (f ∷ known)).current
    → ((v : ℕ) → (progress_of made known).current < v → published_at known v ≡ None)
    → (v : ℕ) → (progress_of made (f ∷ known)).current < v → published_at (f ∷ known) v ≡ None
unpublished_later made f known other rises none v later = still_published f known v other ∙ none v (omega (arith, rises, later))
