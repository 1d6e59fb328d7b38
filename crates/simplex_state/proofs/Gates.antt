-- The views that finality would have to skip, and the views of votes.
use Rattle.std.proofs.Common.{◌≡◌, ℕ, ◌<◌, ◌≤◌, ◌&&◌, nat_lt, Bool, true, false, List, [], ◌∷◌, Some, refl, arith}
use Rattle.std.proofs.lemmas.Grind.{common_steps}
use Rattle.std.specs.List.{list_any}
use Rattle.simplex_values.specs.Terms.{term_index}
use Rattle.simplex_values.specs.Covers.{covers}
use Rattle.simplex_wire.specs.declared.vote.Finalize.{Finalize}
use Rattle.simplex_wire.specs.declared.vote.Nullify.{Nullify}
use Rattle.simplex_wire.specs.declared.vote.Vote.TheVariants as votes
use Rattle.model_rules.specs.Known.{Made, Fact, Voted, has_nullified, is_nullify_in, view_of}
use Rattle.model_rules.specs.Views.{last_finalized}
use Rattle.model_rules.specs.Votes.{is_gated, is_gate_in, finalize_at, nullify_at, signed_nullify}
use Rattle.model_rules.proofs.Soundness.{finalize_parts, slot_view}

-- a later view is of no earlier term
pub term_rises : (length a b : ℕ) → 0 < length → a ≤ b → term_index length a ≤ term_index length b
unfolding term_index
term_rises length a b some le = grind (arith, le, some)

-- ---- a nullified view that covers this one gates it

gated_by : (length lf view u : ℕ) (known : List Fact) → list_any (is_nullify_in u) known ≡ true → lf < u → covers length u view ≡ true
    → list_any (is_gate_in length lf view) known ≡ true
gated_by length lf view u [] e l c = cc
gated_by length lf view u (Voted (votes.Nullify n) ∷ known) e l c = grind (arith, common_steps, e, l, c, gated_by length lf view u known)
gated_by length lf view u (_ ∷ known) e l c = gated_by length lf view u known e l c

free_of : (length lf view : ℕ) (known : List Fact) → ((u : ℕ) → lf < u → covers length u view ≡ true → list_any (is_nullify_in u) known ≡ false)
    → list_any (is_gate_in length lf view) known ≡ false
free_of length lf view [] none = refl
free_of length lf view (Voted (votes.Nullify n) ∷ known) none =
    grind (arith, common_steps, none n.round.view, free_of length lf view known (λ u l c. grind (arith, common_steps, none u l c)))
free_of length lf view (_ ∷ known) none = free_of length lf view known none

pub gate_closed : (made : Made) (known : List Fact) (view u : ℕ) → has_nullified known u ≡ true → last_finalized known < u
    → covers made.term_length u view ≡ true → is_gated made known view ≡ true
unfolding is_gated has_nullified
gate_closed made known view u e l c = gated_by made.term_length (last_finalized known) view u known e l c

-- where the greatest nullified view up to this one does not, none does
pub gate_open : (made : Made) (known : List Fact) (view u : ℕ) → 0 < made.term_length
    → u ≤ view
    → ((q : ℕ) → q ≤ view → has_nullified known q ≡ true → q ≤ u)
    → (last_finalized known < u → covers made.term_length u view ≡ false)
    → is_gated made known view ≡ false
unfolding is_gated has_nullified covers
gate_open made known view u some below greatest apart =
    free_of made.term_length (last_finalized known) view known
    (λ q l c. grind (arith, common_steps, greatest q, apart, l, c, below, term_rises made.term_length q u some, term_rises made.term_length u view some below))

pub gate_free : (made : Made) (known : List Fact) (view : ℕ) → ((q : ℕ) → q ≤ view → has_nullified known q ≡ false) → is_gated made known view ≡ false
unfolding is_gated has_nullified covers
gate_free made known view none =
    free_of made.term_length (last_finalized known) view known (λ q l c. grind (arith, common_steps, none q, c))

-- ---- the view of a vote

pub finalize_view : (made : Made) (known : List Fact) (view : ℕ) (f : Finalize) → finalize_at made known view ≡ Some f → view_of f.proposal ≡ view
finalize_view made known view f e = slot_view known view f.proposal (finalize_parts made known view f e).0

pub nullify_view : (made : Made) (view : ℕ) (n : Nullify) → nullify_at made view ≡ Some n → n.round.view ≡ view
unfolding nullify_at signed_nullify
nullify_view made view n e = grind (arith, common_steps, e)

-- by the greatest nullified view up to this one alone
pub gated_by_last : (made : Made) (known : List Fact) (view u : ℕ) (above same : Bool)
    → nat_lt (last_finalized known) u ≡ above
    → covers made.term_length u view ≡ same
    → has_nullified known u ≡ true
    → u ≤ view
    → ((q : ℕ) → q ≤ view → has_nullified known q ≡ true → q ≤ u)
    → 0 < made.term_length
    → is_gated made known view ≡ (above && same)
gated_by_last made known view u true true a s e below greatest some = gate_closed made known view u e (grind (arith, a)) s
gated_by_last made known view u true false a s e below greatest some = gate_open made known view u some below greatest (λ l. s)
gated_by_last made known view u false same a s e below greatest some = gate_open made known view u some below greatest (λ l. grind (arith, a, l))
