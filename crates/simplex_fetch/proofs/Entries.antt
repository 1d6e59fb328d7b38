-- A list of views in rising order: what is at a view, puts and takes, and tests.
use Rattle.std.proofs.Common.{◌≡◌, ◌<◌, ◌==◌, ℕ, Bool, true, false, cond, refl, sym, ap, ◌∙◌, List, [], ◌∷◌, Option, Some, None, inl, inr, arith}
use Rattle.std.specs.Prelude.{⊤, if◌then◌else◌}
use Rattle.std.proofs.lemmas.Grind.{common_steps}
use Rattle.std.proofs.lemmas.Bool.{cases_order}
use Rattle.std.proofs.lemmas.Bool.Decides.{nat_tests}
use Rattle.std.proofs.lemmas.Map.Keys.{sorted_head, sorted_tail}
use Rattle.std.specs.declared.cmp.Ordering.TheVariants.{Less, Equal, Greater}
use Rattle.std.specs.Ordering.{nat_cmp, match_ordering}
use Rattle.std.specs.BTreeMap.{is_at}
use Rattle.std.specs.Cmp.{unsigned_tied}
use Rattle.std.specs.Map.{keys_of}
use Rattle.std.specs.List.{AllByRecursion}
use Rattle.std.specs.List.Sorted.{IsStrictlySortedBy}
use Rattle.model_resolver.specs.declared.entry.Entry.{Entry}
use Rattle.model_resolver.specs.Views.{entry_at, with_entry, without_entry, first_view}

-- the views rise
abbrev pub Rising : List (ℕ × Entry) → Type 0
Rising es = IsStrictlySortedBy nat_cmp (keys_of es)

-- all views are above this one
abbrev pub Above : ℕ → List (ℕ × Entry) → Type 0
Above v [] = ⊤
Above v (x ∷ es) = (v < x.0) × Above v es

pub less_is_below : (v w : ℕ) → nat_cmp v w ≡ Less → v < w
less_is_below v w h = grind (arith, nat_tests)

pub above_from : (v : ℕ) (es : List (ℕ × Entry)) → AllByRecursion (λ y. nat_cmp v y ≡ Less) (keys_of es) → Above v es
above_from v [] h = tt
above_from v (x ∷ es) h = (less_is_below v x.0 h.0, above_from v es h.1)

pub above_lower : (v w : ℕ) (es : List (ℕ × Entry)) → v < w → Above w es → Above v es
above_lower v w [] less h = tt
above_lower v w (x ∷ es) less h = (let a : w < x.0 = h.0 in let b : v < x.0 = omega arith in b, above_lower v w es less h.1)

-- the other views are above the first
pub above_head : (x : ℕ × Entry) (es : List (ℕ × Entry)) → Rising (x ∷ es) → Above x.0 es
above_head x es s = above_from x.0 es (sorted_head nat_cmp x.0 (keys_of es) s)

pub tail_rises : (x : ℕ × Entry) (es : List (ℕ × Entry)) → Rising (x ∷ es) → Rising es
tail_rises x es s = sorted_tail nat_cmp x.0 (keys_of es) s

-- at a view below all others there is nothing
pub entry_at-above : (v : ℕ) (es : List (ℕ × Entry)) → Above v es → entry_at es v ≡ None
unfolding entry_at
entry_at-above v [] h = refl
entry_at-above v (x ∷ es) h =
    let here : v < x.0 = h.0 in let rest = entry_at-above v es h.1 in grind (arith, common_steps, nat_tests)

-- it is put before them
pub with_entry-above : (v : ℕ) (e : Entry) (es : List (ℕ × Entry)) → Above v es → with_entry v e es ≡ (v, e) ∷ es
unfolding with_entry
with_entry-above v e [] h = refl
with_entry-above v e (x ∷ es) h = let here : v < x.0 = h.0 in grind (arith, common_steps, nat_tests)

-- and there is nothing to take away
pub without_entry-above : (v : ℕ) (es : List (ℕ × Entry)) → Above v es → without_entry v es ≡ es
unfolding without_entry
without_entry-above v [] h = refl
without_entry-above v (x ∷ es) h =
    let here : v < x.0 = h.0 in let rest = without_entry-above v es h.1 in grind (arith, common_steps, nat_tests)

-- what is put where it was taken from is put there
pub with-without : (v : ℕ) (e : Entry) (es : List (ℕ × Entry)) → Rising es → with_entry v e (without_entry v es) ≡ with_entry v e es
unfolding with_entry without_entry
with-without v e [] s = refl
with-without v e (x ∷ es) s = elim (cases_order v x.0) [
  | inl same ↦
      let high : Above v es = above_from v es (let h = sorted_head nat_cmp x.0 (keys_of es) s in rw same h) in
      let put = with_entry-above v e es high in
      unfold with_entry in grind (arith, common_steps, nat_tests, put)
  | inr (inl below) ↦
      let high : Above v (x ∷ es) = (below, above_lower v x.0 es below (above_head x es s)) in
      ap (with_entry v e) (without_entry-above v (x ∷ es) high)
  | inr (inr above) ↦ let rest = with-without v e es (tail_rises x es s) in grind (arith, common_steps, nat_tests, rest)
]

-- what is put where it is changes nothing
pub with_entry-same : (v : ℕ) (e : Entry) (es : List (ℕ × Entry)) → Rising es → entry_at es v ≡ Some e → with_entry v e es ≡ es
unfolding with_entry entry_at
with_entry-same v e [] s h = cc
with_entry-same v e (x ∷ es) s h = elim (cases_order v x.0) [
  | inl same ↦ grind (arith, common_steps, nat_tests)
  | inr (inl below) ↦
      let high : Above v (x ∷ es) = (below, above_lower v x.0 es below (above_head x es s)) in
      let none : Some e ≡ None = sym h ∙ entry_at-above v (x ∷ es) high in cc
  | inr (inr above) ↦
      let found : entry_at es v ≡ Some e = grind (arith, common_steps, nat_tests) in
      let rest = with_entry-same v e es (tail_rises x es s) found in grind (arith, common_steps, nat_tests, rest)
]

-- whether there is an entry, and it passes the test
abbrev pub passes : (Entry → Bool) → Option Entry → Bool
passes test None = false
passes test (Some e) = test e

-- the first view that passes passes
pub first_view-some : (test : Entry → Bool) (es : List (ℕ × Entry)) (w : ℕ) → Rising es → first_view test es ≡ Some w → passes test (entry_at es w) ≡ true
unfolding first_view entry_at
first_view-some test [] w s h = cc
first_view-some test (x ∷ es) w s h =
    let none = entry_at-above x.0 es (above_head x es s) in
    let rest : first_view test es ≡ Some w → passes test (entry_at es w) ≡ true = first_view-some test es w (tail_rises x es s) in
    elim (test x.1) as (λ b. test x.1 ≡ b → passes test (entry_at (x ∷ es) w) ≡ true) [
      | true ↦ λ yes. let here : x.0 ≡ w = grind (arith, common_steps) in grind (arith, common_steps, nat_tests, unsigned_tied w x.0)
      | false ↦ λ no. let later : first_view test es ≡ Some w = grind (arith, common_steps) in
          let found = rest later in grind (arith, common_steps, nat_tests, unsigned_tied w x.0, none)
    ] refl

-- where no view passes first, none passes
pub first_view-none : (test : Entry → Bool) (es : List (ℕ × Entry)) (q : ℕ) → first_view test es ≡ None → passes test (entry_at es q) ≡ false
unfolding first_view entry_at
first_view-none test [] q h = refl
first_view-none test (x ∷ es) q h =
    let rest : first_view test es ≡ None → passes test (entry_at es q) ≡ false = first_view-none test es q in
    elim (test x.1) as (λ b. test x.1 ≡ b → passes test (entry_at (x ∷ es) q) ≡ false) [
      | true ↦ λ yes. grind (arith, common_steps)
      | false ↦ λ no. let later : first_view test es ≡ None = grind (arith, common_steps) in
          let found = rest later in grind (arith, common_steps, nat_tests, unsigned_tied q x.0)
    ] refl

-- what is put at a view is there, and all others are where they were
pub entry_at-put : (v : ℕ) (e : Entry) (es : List (ℕ × Entry)) (q : ℕ) → entry_at (with_entry v e es) q ≡ (if v == q then Some e else entry_at es q)
unfolding with_entry entry_at
entry_at-put v e [] q = grind (arith, common_steps, nat_tests, unsigned_tied q v)
entry_at-put v e (x ∷ es) q =
    let rest = entry_at-put v e es q in
    elim (cases_order v x.0) [
      | inl same ↦ grind (arith, common_steps, nat_tests, unsigned_tied q v, unsigned_tied q x.0)
      | inr (inl below) ↦ grind (arith, common_steps, nat_tests, unsigned_tied q v, unsigned_tied q x.0)
      | inr (inr above) ↦ grind (arith, common_steps, nat_tests, unsigned_tied q v, unsigned_tied q x.0, rest)
    ]

-- where a view is taken away all others are where they were
pub entry_at-taken : (v : ℕ) (es : List (ℕ × Entry)) (q : ℕ) → (v == q) ≡ false → entry_at (without_entry v es) q ≡ entry_at es q
unfolding without_entry entry_at
entry_at-taken v [] q apart = refl
entry_at-taken v (x ∷ es) q apart =
    let rest = entry_at-taken v es q apart in
    grind (arith, common_steps, nat_tests, unsigned_tied q x.0, unsigned_tied v x.0, rest)

-- what is above stays above
pub below_is_less : (v w : ℕ) → v < w → nat_cmp v w ≡ Less
below_is_less v w h = grind (arith, nat_tests)

pub above_keys : (v : ℕ) (es : List (ℕ × Entry)) → Above v es → AllByRecursion (λ y. nat_cmp v y ≡ Less) (keys_of es)
above_keys v [] h = tt
above_keys v (x ∷ es) h = (below_is_less v x.0 h.0, above_keys v es h.1)

pub above_put : (v w : ℕ) (e : Entry) (es : List (ℕ × Entry)) → v < w → Above v es → Above v (with_entry w e es)
unfolding with_entry
above_put v w e [] less h = (less, tt)
above_put v w e (x ∷ es) less h = elim (nat_cmp w x.0) as (λ o. Above v (match_ordering o ((w, e) ∷ x ∷ es) ((x.0, e) ∷ es) (x ∷ with_entry w e es))) [
  | Less ↦ (less, h)
  | Equal ↦ h
  | Greater ↦ (h.0, above_put v w e es less h.1)
]

pub above_taken : (v w : ℕ) (es : List (ℕ × Entry)) → Above v es → Above v (without_entry w es)
unfolding without_entry
above_taken v w [] h = tt
above_taken v w (x ∷ es) h = elim (is_at (nat_cmp w) x.0) as (λ b. Above v (cond b es (x ∷ without_entry w es))) [
  | true ↦ h.1
  | false ↦ (h.0, above_taken v w es h.1)
]

-- the views rise from the first
pub rising_from : (x : ℕ × Entry) (es : List (ℕ × Entry)) → Above x.0 es → Rising es → Rising (x ∷ es)
unfolding IsStrictlySortedBy
rising_from x es high rises = (above_keys x.0 es high, rises)

-- and still do with one more, and with one less
pub rising_put : (v : ℕ) (e : Entry) (es : List (ℕ × Entry)) → Rising es → Rising (with_entry v e es)
unfolding with_entry IsStrictlySortedBy
rising_put v e [] s = (tt, tt)
rising_put v e (x ∷ es) s =
    let high = above_head x es s in
    let rest = tail_rises x es s in
    elim (nat_cmp v x.0) as (λ o. nat_cmp v x.0 ≡ o → Rising (match_ordering o ((v, e) ∷ x ∷ es) ((x.0, e) ∷ es) (x ∷ with_entry v e es))) [
      | Less ↦ λ less. let below = less_is_below v x.0 less in rising_from (v, e) (x ∷ es) (below, above_lower v x.0 es below high) s
      | Equal ↦ λ same. s
      | Greater ↦ λ more. let above : x.0 < v = grind (arith, nat_tests) in rising_from x (with_entry v e es) (above_put x.0 v e es above high) (rising_put v e es rest)
    ] refl

pub rising_taken : (v : ℕ) (es : List (ℕ × Entry)) → Rising es → Rising (without_entry v es)
unfolding without_entry
rising_taken v [] s = s
rising_taken v (x ∷ es) s = elim (is_at (nat_cmp v) x.0) as (λ b. Rising (cond b es (x ∷ without_entry v es))) [
  | true ↦ tail_rises x es s
  | false ↦ rising_from x (without_entry v es) (above_taken x.0 v es (above_head x es s)) (rising_taken v es (tail_rises x es s))
]
