-- Walking over covered views from run to run, and to the greatest parent.
use Rattle.std.proofs.Common.{◌≡◌, ℕ, zero, suc, ◌+◌, ◌-◌, ◌*◌, ◌/◌, ◌<◌, ◌≤◌, ◌==◌, min, not, Bool, true, false, List, Option, Some, None, find, refl, sym, inl, inr, ◌⊎◌, ◌^◌, ◌||◌, if◌then◌else◌, arith}
use Rattle.std.proofs.lemmas.Grind.{common_steps}
use Rattle.std.proofs.Math.Nat.{div-lt_iff_lt-mul}
use Rattle.std.specs.List.{range_with_len}
use Rattle.std.specs.Option.{is_none, is_some}
use Rattle.std.specs.BTreeMap.{BTreeMap}
use Rattle.simplex_values.specs.Terms.{greatest_view, next_of, term_index, term_start, term_end, next_term_start}
use Rattle.model_rules.specs.Known.{Made, Fact}
use Rattle.model_rules.specs.Views.{last_finalized}
use Rattle.model_rules.specs.Ancestry.{is_covered, gap_between, is_certified, is_met, has_ancestry, greatest_parent}
use Rattle.model_rules.proofs.Soundness.{covered_between}
use Rattle.simplex_state.specs.declared.ranges.Ranges.{Ranges}
use Rattle.simplex_state.specs.Ranges.{holds}
use Rattle.simplex_state.specs.Stands.{covered_in}
use Rattle.simplex_state.proofs.Gates.{term_rises}
use Rattle.simplex_state.proofs.Greatest.{greatest_is, greatest_none, greatest_passes}

-- ---- a first number that passes

-- what fails may be left out
skip_by : (test : ℕ → Bool) (a d m : ℕ) → ((q : ℕ) → a ≤ q → q < a + d → q < a + m → test q ≡ false)
    → find test (range_with_len (a + d) (m - d)) ≡ find test (range_with_len a m)
skip_by test a zero m none = grind arith
skip_by test a (suc d) zero none = grind arith
skip_by test a (suc d) (suc m) none =
    (let here = none a (omega arith) (omega arith) (omega arith) in
    let rest = skip_by test (a + 1) d m (λ q l h k. none q (omega (arith, l)) (omega (arith, h)) (omega (arith, k))) in
    grind (arith, common_steps, here, rest))

pub skip_failed : (test : ℕ → Bool) (a d n : ℕ) → ((q : ℕ) → a ≤ q → q < a + d → q < n → test q ≡ false)
    → find test (range_with_len (a + d) (n - (a + d))) ≡ find test (range_with_len a (n - a))
skip_failed test a d n none =
    (let w = skip_by test a d (n - a) (λ q l h k. none q l h (omega (arith, k, l))) in
    grind (arith, w))

none_is_some : (x : ℕ) → ◌≡◌ {A = Option ℕ} None (Some x) → ⊥
none_is_some x e = cc

pub find_some : (test : ℕ → Bool) (a n g : ℕ) → find test (range_with_len a n) ≡ Some g → (a ≤ g) × (g < a + n) × (test g ≡ true)
find_some test a zero g e = absurd (none_is_some g e)
find_some test a (suc n) g e = (grind (arith, common_steps, e, find_some test (a + 1) n g), grind (arith, common_steps, e, find_some test (a + 1) n g), grind (arith, common_steps, e, find_some test (a + 1) n g))

-- where both answer alike, they find alike
pub find_alike : (p q : ℕ → Bool) (a n : ℕ) → ((v : ℕ) → a ≤ v → p v ≡ q v) → find p (range_with_len a n) ≡ find q (range_with_len a n)
find_alike p q a zero e = refl
find_alike p q a (suc n) e = grind (arith, common_steps, e a, find_alike p q (a + 1) n (λ v l. e v (omega (arith, l))))

-- ---- terms

-- up to a term's end, each view is of the term or an earlier one
in_term : (length a q : ℕ) → 0 < length → q ≤ term_index length a * length → term_index length q < term_index length a + 1
unfolding term_index
in_term length a q some le = (div-lt_iff_lt-mul {k = length} {x = q + (length - 1)} {y = (a + (length - 1)) / length + 1} some).1 (grind (arith, le, some))

-- up to the next term, each later view is of this term
pub same_term : (length a q : ℕ) → 0 < length → a ≤ q → q < next_term_start length a → term_index length q ≡ term_index length a
unfolding next_term_start term_end next_of
same_term length a q some le lt = grind (arith, lt, le, some, in_term length a q some, term_rises length a q some le)

pub term_ends_later : (length a : ℕ) → 0 < length → a < greatest_view → a < next_term_start length a
unfolding next_term_start term_end next_of term_index
term_ends_later length a some low = grind (arith, some, low)

-- only genesis is of no term
term_some : (length view : ℕ) → 0 < length → 0 < view → 0 < term_index length view
unfolding term_index
term_some length view some later = grind (arith, some, later)

-- the views up to the end of a term, and the terms up to it
in_terms : (length n q : ℕ) → 0 < length → q ≤ n * length → term_index length q < n + 1
unfolding term_index
in_terms length n q some le = (div-lt_iff_lt-mul {k = length} {x = q + (length - 1)} {y = n + 1} some).1 (grind (arith, le, some))

within_terms : (length n q : ℕ) → 0 < length → term_index length q < n + 1 → q ≤ n * length
unfolding term_index
within_terms length n q some le = (let w = (div-lt_iff_lt-mul {k = length} {x = q + (length - 1)} {y = n + 1} some).0 le in grind (arith, w, some))

-- ---- runs of whole terms

lies : (q next : ℕ) → (q < next) ⊎ (next ≤ q)
lies q next = grind arith

pub next_passes : (length view next q : ℕ) (whole : Ranges) → 0 < length → next ≡ next_term_start length view → view ≤ q → q < next
    → (term_index length q == term_index length view || holds whole (term_index length q)) ≡ true
next_passes length view next q whole some e from to = grind (arith, common_steps, same_term length view q some from (omega (arith, to, e)))

behind_term : (length last end q : ℕ) → end ≡ next_of (min (last * length) greatest_view) → q < end → q ≤ last * length
unfolding next_of
behind_term length last end q e to = grind (arith, e, to)

pub run_passes : (length view next last end q : ℕ) (whole : Ranges) → 0 < length → next ≡ next_term_start length view
    → ((t : ℕ) → term_index length next ≤ t → t ≤ last → holds whole t ≡ true)
    → end ≡ next_of (min (last * length) greatest_view)
    → view ≤ q → q < end
    → (term_index length q == term_index length view || holds whole (term_index length q)) ≡ true
run_passes length view next last end q whole some e held is from to = elim (lies q next) [
  | inl before ↦ next_passes length view next q whole some e from before
  | inr behind ↦ (let low = in_terms length last q some (behind_term length last end q is to) in
      grind (arith, common_steps, held (term_index length q) (term_rises length next q some behind) (omega (arith, low))))
]

later_by : (view next far end : ℕ) → view < next → next ≤ far → end ≡ next_of (min far greatest_view) → view < greatest_view → view < end
unfolding next_of
later_by view next far end before below is low = grind (arith, before, below, is, low)

pub run_later : (length view next last end : ℕ) → 0 < length → next ≡ next_term_start length view → term_index length next ≤ last
    → end ≡ next_of (min (last * length) greatest_view)
    → view < greatest_view → view < end
run_later length view next last end some e rises is low =
    (let later = term_ends_later length view some low in
    later_by view next (last * length) end (omega (arith, later, e)) (within_terms length last next some (omega (arith, rises))) is low)

same_covered : (length : ℕ) (covered : BTreeMap ℕ ℕ) (a q : ℕ) → covered_in length covered a ≡ true → a ≤ q → term_index length q ≡ term_index length a
    → covered_in length covered q ≡ true
unfolding covered_in
same_covered length covered a q e le same = grind (arith, common_steps, e, le, same)

-- behind a covered view, its term and whole ones may be left out
pub skip_run : (length : ℕ) (covered : BTreeMap ℕ ℕ) (whole : Ranges) (first a next n : ℕ) → first ≤ a → a < next → covered_in length covered a ≡ true
    → ((q : ℕ) → first ≤ q → holds whole (term_index length q) ≡ true → covered_in length covered q ≡ true)
    → ((q : ℕ) → a ≤ q → q < next → (term_index length q == term_index length a || holds whole (term_index length q)) ≡ true)
    → find (λ v. not (covered_in length covered v)) (range_with_len next (n - next)) ≡ find (λ v. not (covered_in length covered v)) (range_with_len a (n - a))
skip_run length covered whole first a next n from later c within passed =
    (let w = skip_failed (λ v. not (covered_in length covered v)) a (next - a) n
    (λ q l h k. grind (arith, common_steps, passed q l (omega (arith, h, later)), within q (omega (arith, from, l)), same_covered length covered a q c l)) in
    grind (arith, w, later))

pub find_nothing : (test : ℕ → Bool) (a n : ℕ) → n ≡ 0 → find test (range_with_len a n) ≡ None
find_nothing test a n e = rw e refl

-- before a term's first view, each is of an earlier term
starts_later : (length view q : ℕ) → 0 < length → view ≡ (term_index length view - 1) * length + 1 → q < view → term_index length view ≡ term_index length q → ⊥
starts_later length view q some e before same =
    (let w = in_terms length (term_index length view - 1) q some (omega (arith, e, before)) in
    let first = term_some length view some (omega (arith, before)) in
    absurd (omega (arith, w, first, same)))

-- where the first view of a term is nullified, the whole term is
pub first_least : (length view q : ℕ) → 0 < length → view ≡ term_start length view → term_index length view ≡ term_index length q → view ≤ q
unfolding term_start
first_least length view q some e same = elim (lies q view) [
  | inl before ↦ absurd (starts_later length view q some (grind (arith, common_steps, e, before)) (omega (arith, before)) same)
  | inr behind ↦ behind
]

-- ---- gaps

split_at : (q parent : ℕ) → (q ≤ parent) ⊎ (parent < q)
split_at q parent = grind arith

pub gap_none : (made : Made) (known : List Fact) (parent view : ℕ) → view ≤ parent + 1 → gap_between made known parent view ≡ None
unfolding gap_between
gap_none made known parent view le = find_nothing (λ v. not (is_covered made known v)) (parent + 1) (view - (parent + 1)) (omega (arith, le))

next_is : (parent next view : ℕ) → next ≡ next_of parent → parent < view → view < 2 ^ 64 → next ≡ parent + 1
unfolding next_of
next_is parent next view e l low = omega (arith, e, l, low)

pub gap_is : (made : Made) (known : List Fact) (covered : BTreeMap ℕ ℕ) (parent next view : ℕ)
    → ((v : ℕ) → parent < v → covered_in made.term_length covered v ≡ is_covered made known v)
    → next ≡ next_of parent → parent < view → view < 2 ^ 64
    → find (λ v. not (covered_in made.term_length covered v)) (range_with_len next (view - next)) ≡ gap_between made known parent view
unfolding gap_between
gap_is made known covered parent next view alike e l low =
    rw (next_is parent next view e l low)
    (find_alike (λ v. not (covered_in made.term_length covered v)) (λ v. not (is_covered made known v)) (parent + 1) (view - (parent + 1)) (λ v k. grind (arith, alike v (omega (arith, k)))))

-- ---- the greatest parent

ancestor : (made : Made) (known : List Fact) (parent view : ℕ) → last_finalized known ≤ parent → parent < view
    → (is_certified known parent || is_met known parent view) ≡ true → is_none (gap_between made known parent view) ≡ true → has_ancestry made known parent view ≡ true
unfolding has_ancestry
ancestor made known parent view low below known_as gap = grind (arith, common_steps, low, below, known_as, gap)

no_ancestor : (made : Made) (known : List Fact) (q view : ℕ) → is_certified known q ≡ false → is_met known q view ≡ false → has_ancestry made known q view ≡ false
unfolding has_ancestry
no_ancestor made known q view c m = grind (arith, common_steps, c, m)

gapped : (made : Made) (known : List Fact) (q view : ℕ) → is_none (gap_between made known q view) ≡ false → has_ancestry made known q view ≡ false
unfolding has_ancestry
gapped made known q view gap = grind (arith, common_steps, gap)

pub parent_met : (made : Made) (known : List Fact) (before view : ℕ) → view ≡ before + 1 → last_finalized known ≤ before → is_met known before view ≡ true
    → greatest_parent made known view ≡ Some before
unfolding greatest_parent
parent_met made known before view e low met =
    greatest_is (λ parent. has_ancestry made known parent view) view before (omega (arith, e))
    (ancestor made known before view low (omega (arith, e)) (grind (arith, common_steps, met)) (grind (arith, common_steps, gap_none made known before view (omega (arith, e)))))
    (λ q l h. absurd (omega (arith, l, h, e)))

pub parent_certified : (made : Made) (known : List Fact) (parent view : ℕ) → last_finalized known ≤ parent → parent < view
    → is_certified known parent ≡ true
    → ((q : ℕ) → parent < q → q < view → is_certified known q ≡ false)
    → ((q : ℕ) → q < view → is_met known q view ≡ false)
    → gap_between made known parent view ≡ None
    → greatest_parent made known view ≡ Some parent
unfolding greatest_parent
parent_certified made known parent view low below certified none met gap =
    greatest_is (λ p. has_ancestry made known p view) view parent below
    (ancestor made known parent view low below (grind (arith, common_steps, certified)) (grind (arith, common_steps, gap)))
    (λ q l h. no_ancestor made known q view (none q l h) (met q h))

uncovered_at : (made : Made) (known : List Fact) (parent view g : ℕ) → gap_between made known parent view ≡ Some g → (parent < g) × (g < view) × (is_covered made known g ≡ false)
unfolding gap_between
uncovered_at made known parent view g e =
    (let w = find_some (λ v. not (is_covered made known v)) (parent + 1) (view - (parent + 1)) g e in
    (omega (arith, w.0), omega (arith, w.0, w.1), grind (arith, common_steps, w.2)))

still_gapped : (made : Made) (known : List Fact) (q view g : ℕ) → q < g → g < view → is_covered made known g ≡ false → (b : Bool) → is_none (gap_between made known q view) ≡ b → b ≡ false
still_gapped made known q view g l h bare false e = refl
still_gapped made known q view g l h bare true e = grind (arith, covered_between made known q view g e l h, bare)

pub parent_gapped : (made : Made) (known : List Fact) (parent view g : ℕ) → gap_between made known parent view ≡ Some g
    → ((q : ℕ) → parent < q → q < view → is_certified known q ≡ false)
    → ((q : ℕ) → q < view → is_met known q view ≡ false)
    → greatest_parent made known view ≡ None
unfolding greatest_parent
parent_gapped made known parent view g e none met =
    (let w = uncovered_at made known parent view g e in
    greatest_none (λ p. has_ancestry made known p view) view
    (λ q h. elim (split_at q parent) [
      | inl l ↦ gapped made known q view (still_gapped made known q view g (omega (arith, l, w.0)) w.1 w.2 _ refl)
      | inr l ↦ no_ancestor made known q view (none q l h) (met q h)
    ]))

pub parent_past : (made : Made) (known : List Fact) (view : ℕ) → view ≤ last_finalized known → greatest_parent made known view ≡ None
unfolding greatest_parent has_ancestry
parent_past made known view past =
    greatest_none (λ p. has_ancestry made known p view) view (λ q h. grind (arith, common_steps, past, h))

same_view : (q before : ℕ) → q ≡ before → q ≡ before
same_view q before e = e

-- only the view just before is met
pub before_alone : (made : Made) (known : List Fact) (before view : ℕ) → view ≡ before + 1 → is_met known before view ≡ false → (q : ℕ) → q < view → is_met known q view ≡ false
unfolding is_met
before_alone made known before view e none q l =
    elim (split_at (q + 1) before) [
      | inl h ↦ grind (arith, common_steps, e, h)
      | inr h ↦ grind (arith, common_steps, e, none, same_view q before (omega (arith, h, l, e)))
    ]

-- the view before is not certified, covered or met: then no parent will do
pub parent_unmet : (made : Made) (known : List Fact) (before view : ℕ) → view ≡ before + 1 → is_certified known before ≡ false → is_covered made known before ≡ false
    → is_met known before view ≡ false → greatest_parent made known view ≡ None
unfolding greatest_parent
parent_unmet made known before view e certified bare met =
    greatest_none (λ p. has_ancestry made known p view) view
    (λ q h. elim (split_at before q) [
      | inl l ↦ no_ancestor made known q view (grind (arith, common_steps, certified, same_view q before (omega (arith, l, h, e)))) (before_alone made known before view e met q h)
      | inr l ↦ gapped made known q view (still_gapped made known q view before l (omega (arith, e)) bare _ refl)
    ])

true_false : false ≡ true → ⊥
true_false e = cc

-- the parent, by what lies between it and the view
pub parent_is : (made : Made) (known : List Fact) (parent before view : ℕ) (gap : Option ℕ) → view ≡ before + 1 → last_finalized known ≤ parent → parent ≤ before
    → is_certified known parent ≡ true
    → ((q : ℕ) → parent < q → q ≤ before → is_certified known q ≡ false)
    → is_met known before view ≡ false
    → gap ≡ gap_between made known parent view
    → (if is_some gap then None else Some parent) ≡ greatest_parent made known view
parent_is made known parent before view None e low below certified none met gap =
    sym (parent_certified made known parent view low (omega (arith, below, e)) certified (λ q l h. none q l (omega (arith, h, e))) (before_alone made known before view e met) (sym gap))
parent_is made known parent before view (Some g) e low below certified none met gap =
    sym (parent_gapped made known parent view g (sym gap) (λ q l h. none q l (omega (arith, h, e))) (before_alone made known before view e met))

-- a parent is not before the last final view, and before its child
pub parent_above : (made : Made) (known : List Fact) (view p : ℕ) → greatest_parent made known view ≡ Some p → (last_finalized known ≤ p) × (p < view)
unfolding greatest_parent has_ancestry
parent_above made known view p e = (let w = greatest_passes (λ q. has_ancestry made known q view) view p e in (grind (arith, common_steps, w.0), w.1))

some_above : (made : Made) (known : List Fact) (view : ℕ) (parent : Option ℕ) → greatest_parent made known view ≡ parent → is_some parent ≡ true → last_finalized known < view
some_above made known view None e some = absurd (true_false some)
some_above made known view (Some p) e some = (let w = parent_above made known view p e in omega (arith, w.0, w.1))

pub parent_some : (made : Made) (known : List Fact) (view : ℕ) → is_some (greatest_parent made known view) ≡ true → last_finalized known < view
parent_some made known view some = some_above made known view _ refl some

some_left : (a n : ℕ) → a < n → n - a ≡ suc (n - (a + 1))
some_left a n l = omega (arith, l)

pub find_here : (test : ℕ → Bool) (a n : ℕ) → test a ≡ true → a < n → find test (range_with_len a (n - a)) ≡ Some a
find_here test a n e l = rw (some_left a n l) (grind (arith, common_steps, e))
