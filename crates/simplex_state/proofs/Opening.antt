-- The greatest nullification that opens a view.
use Rattle.std.proofs.Common.{◌≡◌, ℕ, ◌-◌, ◌==◌, ◌<◌, ◌≤◌, if◌then◌else◌, ◌⊎◌, inl, inr, Bool, true, false, List, [], ◌∷◌, Option, Some, None, refl, sym, arith}
use Rattle.std.proofs.lemmas.Grind.{common_steps}
use Rattle.std.specs.Option.{is_some, option_or, option_map}
use Rattle.simplex_wire.specs.declared.certificate.Notarization.{Notarization}
use Rattle.simplex_wire.specs.declared.certificate.Nullification.{Nullification}
use Rattle.simplex_wire.specs.declared.certificate.Finalization.{Finalization}
use Rattle.simplex_wire.specs.declared.certificate.Certificate.TheVariants as certificates
use Rattle.simplex_values.specs.Terms.{greatest_view, next_of, term_end, term_index, next_term_start}
use Rattle.model_rules.specs.Lists.{first_of}
use Rattle.model_rules.specs.Known.{Made, Fact, Added, notarization_of, nullification_of, finalization_of}
use Rattle.model_rules.specs.Views.{last_finalized, current_of, least_active}
use Rattle.model_rules.specs.Ancestry.{has_true_verdict}
use Rattle.model_rules.specs.Best.{opening_nullification, greater, best_certificate}
use Rattle.simplex_wire.specs.declared.scheme.Scheme as scheme
use Rattle.simplex_types.specs.declared.elector.Elector as elector
use Rattle.simplex_state.specs.declared.state.State.{State}
use Rattle.simplex_values.specs.Maps.{found}
use Rattle.simplex_state.specs.Progress.{progress_of}
use Rattle.simplex_state.specs.Certificates.{held_nullification, certificate_in}
use Rattle.simplex_state.specs.Stands.{Keeps}
use Rattle.simplex_state.proofs.Facts.{option_or-none}
use Rattle.simplex_state.proofs.Ahead.{last_below}
use Rattle.simplex_state.proofs.Walking.{same_term, term_ends_later}

nothing : {A : Type 0} (n : Nullification) → ◌≡◌ {A = Option Nullification} None (Some n) → A
nothing n e = absurd (cc)

-- it opens the view, and is known
opening_passes : (length : ℕ) (known : List Fact) (view : ℕ) (n : Nullification) → opening_nullification length known view ≡ Some n
    → (next_term_start length n.round.view ≡ view) × (is_some (nullification_of known n.round.view) ≡ true)
unfolding opening_nullification nullification_of first_of
opening_passes length [] view n e = nothing n e
opening_passes length (Added (certificates.Nullification m) now ∷ known) view n e =
    (grind (arith, common_steps, e, opening_passes length known view n), grind (arith, common_steps, e, opening_passes length known view n))
opening_passes length (Added (certificates.Notarization m) now ∷ known) view n e =
    (grind (arith, common_steps, e, opening_passes length known view n), grind (arith, common_steps, e, opening_passes length known view n))
opening_passes length (Added (certificates.Finalization m) now ∷ known) view n e =
    (grind (arith, common_steps, e, opening_passes length known view n), grind (arith, common_steps, e, opening_passes length known view n))
opening_passes length (_ ∷ known) view n e =
    (grind (arith, common_steps, e, opening_passes length known view n), grind (arith, common_steps, e, opening_passes length known view n))

-- the known nullification of a view is of it
nullified_view : (known : List Fact) (view : ℕ) (n : Nullification) → nullification_of known view ≡ Some n → n.round.view ≡ view
unfolding nullification_of first_of
nullified_view [] view n e = nothing n e
nullified_view (Added (certificates.Nullification m) now ∷ known) view n e = grind (arith, common_steps, e, nullified_view known view n)
nullified_view (Added (certificates.Notarization m) now ∷ known) view n e = grind (arith, common_steps, e, nullified_view known view n)
nullified_view (Added (certificates.Finalization m) now ∷ known) view n e = grind (arith, common_steps, e, nullified_view known view n)
nullified_view (_ ∷ known) view n e = grind (arith, common_steps, e, nullified_view known view n)

-- a newer one of the greatest view that opens is the greatest
newest : (length : ℕ) (known : List Fact) (m : Nullification) (view : ℕ) (other : Option Nullification) → opening_nullification length known view ≡ other
    → nullification_of known m.round.view ≡ None
    → ((q : ℕ) → next_term_start length q ≡ view → is_some (nullification_of known q) ≡ true → q ≤ m.round.view)
    → greater m other ≡ Some m
newest length known m view None e bare greatest = grind (arith, common_steps)
newest length known m view (Some k) e bare greatest =
    (let w = opening_passes length known view k e in
    grind (arith, common_steps, bare, w.0, w.1, greatest k.round.view w.0 w.1))

-- one step of the walk over what is known
opens_by : (length : ℕ) (known : List Fact) (m : Nullification) (view g : ℕ) (n : Nullification) (old : Option Nullification) → nullification_of known g ≡ old
    → option_or old (if m.round.view == g then Some m else None) ≡ Some n
    → next_term_start length g ≡ view
    → (next_term_start length m.round.view ≡ view → m.round.view ≤ g)
    → ((q : ℕ) → next_term_start length q ≡ view → is_some (nullification_of known q) ≡ true → q ≤ g)
    → (nullification_of known g ≡ Some n → opening_nullification length known view ≡ Some n)
    → (if next_term_start length m.round.view == view then greater m (opening_nullification length known view) else opening_nullification length known view) ≡ Some n
opens_by length known m view g n (Some k) e is opens new rest before =
    grind (arith, common_steps, e, is, opens, new, before, nullified_view known g n)
opens_by length known m view g n None e is opens new rest before =
    (let same : m.round.view ≡ g = grind (arith, common_steps, is) in
    let w = newest length known m view _ refl (grind (arith, e, same)) (λ q a b. grind (arith, rest q a b, same)) in
    grind (arith, common_steps, is, opens, same, w))

-- the known nullification of the greatest view that opens
pub opening_is : (length : ℕ) (known : List Fact) (view g : ℕ) (n : Nullification) → nullification_of known g ≡ Some n
    → next_term_start length g ≡ view
    → ((q : ℕ) → next_term_start length q ≡ view → is_some (nullification_of known q) ≡ true → q ≤ g)
    → opening_nullification length known view ≡ Some n
unfolding opening_nullification nullification_of first_of
opening_is length [] view g n e opens greatest = nothing n e
opening_is length (Added (certificates.Nullification m) now ∷ known) view g n e opens greatest =
    opens_by length known m view g n _ refl e opens
    (λ o. greatest m.round.view o (grind (arith, common_steps)))
    (λ q o s. greatest q o (grind (arith, common_steps, s)))
    (λ old. opening_is length known view g n old opens (λ q o s. greatest q o (grind (arith, common_steps, s))))
opening_is length (Added (certificates.Notarization m) now ∷ known) view g n e opens greatest =
    opening_is length known view g n (grind (arith, common_steps, e, option_or-none)) opens (λ q o s. greatest q o (grind (arith, common_steps, s, option_or-none)))
opening_is length (Added (certificates.Finalization m) now ∷ known) view g n e opens greatest =
    opening_is length known view g n (grind (arith, common_steps, e, option_or-none)) opens (λ q o s. greatest q o (grind (arith, common_steps, s, option_or-none)))
opening_is length (_ ∷ known) view g n e opens greatest =
    opening_is length known view g n (grind (arith, common_steps, e, option_or-none)) opens (λ q o s. greatest q o (grind (arith, common_steps, s, option_or-none)))

none_by : (length : ℕ) (known : List Fact) (view : ℕ) (best : Option Nullification) → opening_nullification length known view ≡ best
    → ((q : ℕ) → next_term_start length q ≡ view → is_some (nullification_of known q) ≡ false) → best ≡ None
none_by length known view None e none = refl
none_by length known view (Some n) e none = (let w = opening_passes length known view n e in grind (arith, common_steps, w.1, none n.round.view w.0))

-- where none opens the view
pub opening_none : (length : ℕ) (known : List Fact) (view : ℕ) → ((q : ℕ) → next_term_start length q ≡ view → is_some (nullification_of known q) ≡ false)
    → opening_nullification length known view ≡ None
opening_none length known view none = none_by length known view _ refl none

-- ---- views that a nullification opens

-- from the greatest view on, a term ends at the greatest
stays : (length a : ℕ) → 0 < length → greatest_view ≤ a → next_term_start length a ≡ greatest_view
unfolding next_term_start term_end next_of term_index
stays length a some le = grind (arith, some, le)

lies : (q : ℕ) → (q < greatest_view) ⊎ (greatest_view ≤ q)
lies q = grind arith

lies_below : (g current : ℕ) → (g < current) ⊎ (current ≤ g)
lies_below g current = grind arith

-- a term's views open the same
same_start : (length q g : ℕ) → term_index length g ≡ term_index length q → next_term_start length g ≡ next_term_start length q
unfolding next_term_start term_end
same_start length q g e = rw e refl

-- a view below the greatest is opened from below
pub opened_below : (length q current : ℕ) → 0 < length → current < greatest_view → next_term_start length q ≡ current → q < current
opened_below length q current some low e =
    elim (lies q) [
      | inl l ↦ grind (arith, e, term_ends_later length q some l)
      | inr h ↦ absurd (omega (arith, low, e, stays length q some h))
    ]

-- between a view that opens and the view that it opens, each opens it
pub opens_alike : (length q g current : ℕ) → 0 < length → next_term_start length q ≡ current → q ≤ g → (g < current) ⊎ (greatest_view ≤ current) → current ≤ greatest_view
    → next_term_start length g ≡ current
opens_alike length q g current some e le (inl below) low = grind (arith, e, same_start length q g (same_term length q g some le (omega (arith, below, e))))
opens_alike length q g current some e le (inr top) low =
    elim (lies_below g current) [
      | inl below ↦ grind (arith, e, same_start length q g (same_term length q g some le (omega (arith, below, e))))
      | inr above ↦ grind (arith, top, low, stays length g some (omega (arith, above, top)))
    ]

-- ---- the state's nullifications

module _ {S L : Type 0} {g : scheme.Ghosts S} {h : elector.Ghosts L} where
  -- those that open the current view are held
  opening_held : (state : State S L g h) (made : Made) (known : List Fact) (q : ℕ) → Keeps state made known
      → next_term_start made.term_length q ≡ current_of made known → found state.nullifications q ≡ held_nullification known q
  unfolding progress_of
  opening_held state made known q k e = k.nullifications q (grind (arith, common_steps, e))

  pub none_opens : (state : State S L g h) (made : Made) (known : List Fact) → Keeps state made known
      → ((q : ℕ) → next_term_start made.term_length q ≡ current_of made known → is_some (found state.nullifications q) ≡ false)
      → None ≡ opening_nullification made.term_length known (current_of made known)
  unfolding held_nullification
  none_opens state made known k none =
      sym (opening_none made.term_length known (current_of made known) (λ q e. grind (arith, common_steps, none q e, opening_held state made known q k e)))

  opens_at : (state : State S L g h) (made : Made) (known : List Fact) (g : ℕ) (best : Option Nullification) → nullification_of known g ≡ best
      → Keeps state made known
      → is_some (found state.nullifications g) ≡ true
      → next_term_start made.term_length g ≡ current_of made known
      → ((q : ℕ) → next_term_start made.term_length q ≡ current_of made known → is_some (found state.nullifications q) ≡ true → q ≤ g)
      → certificate_in (found state.nullifications g) ≡ opening_nullification made.term_length known (current_of made known)
  unfolding held_nullification
  opens_at state made known g None e k some opens greatest = grind (arith, common_steps, e, some, opening_held state made known g k opens)
  opens_at state made known g (Some n) e k some opens greatest =
      (let w = opening_is made.term_length known (current_of made known) g n e opens (λ q o s. greatest q o (grind (arith, common_steps, s, opening_held state made known q k o))) in
      grind (arith, common_steps, e, w, opening_held state made known g k opens))

  pub one_opens : (state : State S L g h) (made : Made) (known : List Fact) (g : ℕ) → Keeps state made known
      → is_some (found state.nullifications g) ≡ true
      → next_term_start made.term_length g ≡ current_of made known
      → ((q : ℕ) → next_term_start made.term_length q ≡ current_of made known → is_some (found state.nullifications q) ≡ true → q ≤ g)
      → certificate_in (found state.nullifications g) ≡ opening_nullification made.term_length known (current_of made known)
  one_opens state made known g k some opens greatest = opens_at state made known g _ refl k some opens greatest

unequal : (x y : ℕ) → x ≡ y → (x == y) ≡ false → ⊥
unequal x y e n = absurd (grind (arith, common_steps, e, n))

-- where the greatest does not open the view, none does
pub mismatch : (length q g current : ℕ) (b : Bool) → 0 < length → current ≤ greatest_view → (next_term_start length g == current) ≡ false
    → (g < current) ⊎ (greatest_view ≤ current) → next_term_start length q ≡ current → (b ≡ true → q ≤ g) → b ≡ false
mismatch length q g current false some low other below e greatest = refl
mismatch length q g current true some low other below e greatest =
    absurd (unequal (next_term_start length g) current (opens_alike length q g current some e (greatest refl) below low) other)

-- ---- the best certificate

-- the view before the current one is not forgotten
pub pruned_before : (made : Made) (known : List Fact) → 0 < made.retention → (progress_of made known).pruned ≤ least_active made known → last_finalized known ≤ greatest_view
    → (progress_of made known).pruned ≤ current_of made known - 1
unfolding least_active
pruned_before made known some active low = (let w = last_below made known low in omega (arith, some, active, w))

pub best_final : (made : Made) (known : List Fact) (before : ℕ) (f : Finalization) → before ≡ current_of made known - 1 → finalization_of known before ≡ Some f
    → Some (certificates.Finalization f) ≡ best_certificate made known
unfolding best_certificate
best_final made known before f is e = grind (arith, common_steps, is, e)

pub best_notarized : (made : Made) (known : List Fact) (before : ℕ) (n : Notarization) → before ≡ current_of made known - 1 → finalization_of known before ≡ None
    → (if has_true_verdict known before then notarization_of known before else None) ≡ Some n
    → Some (certificates.Notarization n) ≡ best_certificate made known
unfolding best_certificate
best_notarized made known before n is none e = grind (arith, common_steps, is, none, e)

pub best_rest : (made : Made) (known : List Fact) (before : ℕ) → before ≡ current_of made known - 1 → finalization_of known before ≡ None
    → (if has_true_verdict known before then notarization_of known before else None) ≡ None
    → option_map certificates.Nullification (opening_nullification made.term_length known (current_of made known)) ≡ best_certificate made known
unfolding best_certificate
best_rest made known before is none e = grind (arith, common_steps, is, none, e)
