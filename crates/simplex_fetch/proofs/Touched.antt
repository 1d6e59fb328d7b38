-- The views with an ask that is done with.
use Rattle.std.proofs.Common.{◌≡◌, ◌<◌, ◌&&◌, ℕ, Bool, true, false, nat_le, refl, sym, ap, ◌∙◌, List, [], ◌∷◌, map, Option, Some, None, arith}
use Rattle.std.specs.Prelude.{filter}
use Rattle.std.proofs.lemmas.Grind.{common_steps}
use Rattle.std.proofs.lemmas.Bool.Decides.{nat_tests}
use Rattle.std.proofs.lemmas.List.Kept.{IsStrictlySortedBy-filter}
use Rattle.std.specs.declared.ops.Bound.TheVariants.{Included}
use Rattle.std.specs.Ordering.{nat_cmp}
use Rattle.std.specs.Cmp.{unsigned_tied}
use Rattle.std.specs.BTreeMap.Range.{range_contains, entries_between}
use Rattle.std.specs.List.Sorted.{IsStrictlySortedBy}
use Rattle.simplex_values.specs.declared.ask.Ask.{Ask}
use Rattle.simplex_values.specs.declared.ask.Kind.{Kind}
use Rattle.simplex_values.specs.declared.ask.Until.TheVariants as until
use Rattle.model_resolver.specs.declared.arrivals.Arrival.{Arrival}
use Rattle.model_resolver.specs.declared.retire.Retire.{Retire}
use Rattle.model_resolver.specs.declared.retire.Retire.TheVariants.{Settled, Finalized, Floor}
use Rattle.model_resolver.specs.declared.entry.Entry.{Entry}
use Rattle.model_resolver.specs.Asks.{asks_any, same_kind, same_until}
use Rattle.model_resolver.specs.Retirement.{reaches, touches}
use Rattle.model_resolver.specs.Views.{entry_at, views_where}
use Rattle.simplex_fetch.specs.Index.{is_there, has_ask, AreHolders}
use Rattle.simplex_fetch.proofs.Entries.{Rising}
use Rattle.simplex_fetch.proofs.Listed.{passes_at, where-is, where_same}
use Rattle.simplex_fetch.proofs.Reached.{between-is}

-- the views of a range
abbrev pub in_range : ℕ → ℕ → ℕ → Bool
in_range first last view = nat_le first view && nat_le view last

pub range_is : (first last q : ℕ) → range_contains nat_cmp (Included first) (Included last) q ≡ in_range first last q
range_is first last q = grind (arith, common_steps, nat_tests)

-- of these the views of a range
pub there-filter : (first last q : ℕ) (ks : List ℕ) → is_there q (filter (range_contains nat_cmp (Included first) (Included last)) ks) ≡ (in_range first last q && is_there q ks)
there-filter first last q [] = grind (arith, common_steps)
there-filter first last q (k ∷ ks) =
    let rest = there-filter first last q ks in
    let is = range_is first last k in
    grind (arith, common_steps, nat_tests, unsigned_tied q k)

-- a view that is there passes where it is in the range and has such an ask
pub passes-held : (first last : ℕ) (test : Ask → Bool) (t : ℕ → Entry → Bool) → ((v : ℕ) (e : Entry) → t v e ≡ (in_range first last v && asks_any test e.arrivals))
    → (q : ℕ) (o : Option Entry) → (in_range first last q && has_ask test o) ≡ passes_at t q o
passes-held first last test t is q None = grind (arith, common_steps)
passes-held first last test t is q (Some e) = sym (is q e)

-- the holders of a range are the views of the range that have such an ask
pub held-is : (first last : ℕ) (test : Ask → Bool) (t : ℕ → Entry → Bool) → ((v : ℕ) (e : Entry) → t v e ≡ (in_range first last v && asks_any test e.arrivals))
    → (views : List (ℕ × Entry)) (holders : List ℕ) → Rising views → IsStrictlySortedBy nat_cmp holders → AreHolders test holders views
    → filter (range_contains nat_cmp (Included first) (Included last)) holders ≡ views_where t views
unfolding AreHolders
held-is first last test t is views holders s rises held =
    where-is t views (filter (range_contains nat_cmp (Included first) (Included last)) holders) s (IsStrictlySortedBy-filter nat_cmp (range_contains nat_cmp (Included first) (Included last)) holders rises)
    (λ q. there-filter first last q holders ∙ ap (λ b. in_range first last q && b) (held q) ∙ passes-held first last test t is q (entry_at views q))

-- where all views of the range pass they are the keys of the range
pub all-is : (first last : ℕ) (t : ℕ → Entry → Bool) → ((v : ℕ) (e : Entry) → t v e ≡ in_range first last v) → (views : List (ℕ × Entry))
    → map (λ e. e.0) (entries_between nat_cmp (Included first) (Included last) views) ≡ views_where t views
all-is first last t is views = between-is first last views ∙ where_same _ t (λ v e. sym (is v e)) views

-- where none passes there is none
pub where-none : (t : ℕ → Entry → Bool) → ((v : ℕ) (e : Entry) → t v e ≡ false) → (es : List (ℕ × Entry)) → views_where t es ≡ []
unfolding views_where
where-none t none [] = refl
where-none t none (x ∷ es) = let rest = where-none t none es in let is = none x.0 x.1 in grind (arith, common_steps)

-- no view is in an empty range
pub range_none : (first last v : ℕ) → last < first → in_range first last v ≡ false
range_none first last v less = grind (arith, common_steps, nat_tests)

-- what is done with by kind, by a finalization and by the floor
pub touches_kind : (retire : Retire) (k : Kind) (start end : ℕ) → retire ≡ Settled k start end → (asks : List Arrival) → touches retire asks ≡ asks_any (λ ask. same_kind ask.kind k) asks
unfolding touches
touches_kind retire k start end is asks = ap (λ r. touches r asks) is

pub touches_all : (retire : Retire) (finalized : ℕ) → retire ≡ Finalized finalized → (asks : List Arrival) → touches retire asks ≡ true
unfolding touches
touches_all retire finalized is asks = ap (λ r. touches r asks) is

pub touches_floor : (retire : Retire) (floor : ℕ) → retire ≡ Floor floor → (asks : List Arrival) → touches retire asks ≡ asks_any (λ ask. same_until ask.until until.Floor) asks
unfolding touches
touches_floor retire floor is asks = ap (λ r. touches r asks) is

module _ (retire : Retire) (first last : ℕ) (reach : (view : ℕ) → reaches retire view ≡ in_range first last view) (views : List (ℕ × Entry)) where
  -- the holders of the range are the views that are touched
  pub touched-held : (test : Ask → Bool) → ((asks : List Arrival) → touches retire asks ≡ asks_any test asks) → (holders : List ℕ)
      → Rising views → IsStrictlySortedBy nat_cmp holders → AreHolders test holders views
      → filter (range_contains nat_cmp (Included first) (Included last)) holders ≡ views_where (λ view entry. reaches retire view && touches retire entry.arrivals) views
  touched-held test is holders s rises held = held-is first last test _ (λ v e. cc (reach v, is e.arrivals)) views holders s rises held

  -- where all are touched they are the views of the range
  pub touched-all : ((asks : List Arrival) → touches retire asks ≡ true)
      → map (λ e. e.0) (entries_between nat_cmp (Included first) (Included last) views) ≡ views_where (λ view entry. reaches retire view && touches retire entry.arrivals) views
  touched-all is = all-is first last _ (λ v e. let a = reach v in let b = is e.arrivals in grind (arith, common_steps)) views

  -- in an empty range there are none
  pub touched-none : last < first → views_where (λ view entry. reaches retire view && touches retire entry.arrivals) views ≡ []
  touched-none less = where-none _ (λ v e. let a = reach v in let b = range_none first last v less in grind (arith, common_steps)) views
