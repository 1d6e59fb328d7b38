-- What each call of the fetcher keeps: the numbers, what a delivery was of, and the asks for gaps.
use Rattle.std.proofs.Common.{◌≡◌, ◌∙◌, ◌<◌, ◌≤◌, ◌+◌, ◌==◌, ◌&&◌, ◌⊎◌, inl, inr, ℕ, not, Bool, true, false, List, [], ◌∷◌, length, Option, Some, None, if◌then◌else◌, refl, sym, ap, subst, arith, subst₂}
use Rattle.std.proofs.lemmas.Grind.{common_steps}
use Rattle.std.proofs.lemmas.Bool.{cases_order, eqb-true, eqb-false}
use Rattle.std.proofs.lemmas.Bool.Decides.{nat_tests}
use Rattle.std.proofs.lemmas.List.Folds.{list_all-append}
use Rattle.std.proofs.lemmas.Map.Keys.{sorted_head}
use Rattle.std.proofs.lemmas.Map.Views.{any-filter_same}
use Rattle.std.specs.List.{list_all}
use Rattle.std.specs.Ordering.{nat_cmp}
use Rattle.std.specs.Map.{keys_of}
use Rattle.std.specs.Cmp.{unsigned_tied}
use Rattle.simplex_values.specs.declared.ask.Ask.{Ask}
use Rattle.simplex_values.specs.declared.ask.Kind.{Kind}
use Rattle.simplex_values.specs.declared.ask.Kind.TheVariants as kinds
use Rattle.simplex_values.specs.declared.ask.Until.{Until}
use Rattle.simplex_values.specs.declared.ask.Until.TheVariants as untils
use Rattle.simplex_values.specs.declared.ask.Outcome.{Outcome}
use Rattle.simplex_values.specs.declared.ask.Outcome.TheVariants as outcome
use Rattle.model_resolver.specs.declared.arrivals.Arrival.{Arrival}
use Rattle.model_resolver.specs.declared.entry.Entry.{Entry}
use Rattle.model_resolver.specs.declared.entry.State.{State}
use Rattle.model_resolver.specs.declared.entry.State.TheVariants.{Waiting, Asked, Judged}
use Rattle.model_resolver.specs.declared.out.Out.{Out}
use Rattle.model_resolver.specs.declared.out.Out.TheVariants as out
use Rattle.model_resolver.specs.declared.retire.Retire.{Retire}
use Rattle.model_resolver.specs.Asks.{asks_any, asks_of, holds_ask, without_asks}
use Rattle.simplex_fetch.specs.Index.{is_value, has_id, has_ask, is_due}
use Rattle.model_resolver.specs.Retirement.{reaches, retires}
use Rattle.model_resolver.specs.Views.{entry_at, with_entry, without_entry, views_where, id_of, is_asked_as, is_judged_as, asked_view, judged_view}
use Rattle.model_resolver.specs.Fetcher as fetch
use Rattle.model_resolver.specs.Fetcher.{Machine, After, Fetching, quiet, visited, in_state, asking, attempted, attempted_at, attempting, retrying, entry_with, adding, noting, fetched_beside, without, is_empty, left_of, kept_or_left, retired_at, retained, is_done, delivered_of, blocked_by, asked_on, judged_as, judged_entry, judged_at, judged, expired_as, expired_at, expiring, expired, retried, refused, peer_of}
use Rattle.simplex_fetch.proofs.Entries.{Rising, passes, above_from, tail_rises, entry_at-above, entry_at-put, entry_at-taken, first_view-some, rising_put, rising_taken}
use Rattle.simplex_fetch.proofs.Indexing.{asked_needs, value_here}
use Rattle.simplex_fetch.proofs.Taken.{blocked_views, blocked_ids}
use Rattle.model_resolver.specs.Resolver.{backfill}
use Rattle.simplex_resolver.proofs.Opening.{is_backfill, entry-kept}

-- ---- what is at a view after one was put there, or taken away

put-cases : (P : Option Entry → Type 0) (w : ℕ) (entry : Entry) (views : List (ℕ × Entry)) (v : ℕ)
    → (w ≡ v → P (Some entry)) → ((w == v) ≡ false → P (entry_at views v)) → P (entry_at (with_entry w entry views) v)
put-cases P w entry views v here there =
    let cases : P (if w == v then Some entry else entry_at views v) =
    elim (w == v) as (λ b. (w == v) ≡ b → P (if b then Some entry else entry_at views v)) [
      | true ↦ λ same. here (eqb-true w v same)
      | false ↦ λ apart. there apart
    ] refl in
    subst P (sym (entry_at-put w entry views v)) cases

entry_at-gone : (v : ℕ) (es : List (ℕ × Entry)) → Rising es → entry_at (without_entry v es) v ≡ None
unfolding without_entry entry_at
entry_at-gone v [] s = refl
entry_at-gone v (x ∷ es) s = elim (cases_order v x.0) [
  | inl same ↦
      let none = entry_at-above v es (above_from v es (let h = sorted_head nat_cmp x.0 (keys_of es) s in rw same h)) in
      grind (arith, common_steps, nat_tests, none, unsigned_tied v x.0)
  | inr (inl below) ↦ let rest = entry_at-gone v es (tail_rises x es s) in grind (arith, common_steps, nat_tests, rest, unsigned_tied v x.0)
  | inr (inr above) ↦ let rest = entry_at-gone v es (tail_rises x es s) in grind (arith, common_steps, nat_tests, rest, unsigned_tied v x.0)
]

taken-cases : (P : Option Entry → Type 0) (w : ℕ) (views : List (ℕ × Entry)) (v : ℕ) → Rising views
    → (w ≡ v → P None) → ((w == v) ≡ false → P (entry_at views v)) → P (entry_at (without_entry w views) v)
taken-cases P w views v s here there =
    elim (w == v) as (λ b. (w == v) ≡ b → P (entry_at (without_entry w views) v)) [
      | true ↦ λ same. let at : entry_at (without_entry w views) v ≡ None = rw (eqb-true w v same) (entry_at-gone v views s) in subst P (sym at) (here (eqb-true w v same))
      | false ↦ λ apart. subst P (sym (entry_at-taken w views v apart)) (there apart)
    ] refl

-- ---- the ask for a gap

the-ask : (kind : Kind) (until : Until) → is_backfill (record { kind = kind; until = until }) ≡ true → record { kind = kind; until = until } ≡ (backfill 0).ask
the-ask kinds.Nullification untils.Floor is = refl
the-ask kinds.Nullification untils.Finalized is = cc
the-ask kinds.Notarization until is = cc

-- it stays where the asks that pass a test go, if it does not pass
without-kept : (test : Ask → Bool) → test (backfill 0).ask ≡ false → (arrivals : List Arrival)
    → asks_any is_backfill arrivals ≡ true → asks_any is_backfill (without_asks test arrivals) ≡ true
without-kept test fails arrivals held =
    any-filter_same (λ (a : Arrival). is_backfill a.ask) (λ a. not (test a.ask)) true
    (λ a is. ap (λ ask. not (test ask)) (the-ask a.ask.kind a.ask.until is) ∙ ap not fails) arrivals
    ∙ held

none-empty : (entry : Entry) → is_empty entry ≡ true → asks_any is_backfill entry.arrivals ≡ true → ⊥
none-empty entry empty held = lone entry.arrivals empty held
  where
    lone : (arrivals : List Arrival) → (length arrivals == 0) ≡ true → asks_any is_backfill arrivals ≡ true → ⊥
    lone [] empty held = cc
    lone (a ∷ arrivals) empty held = grind (arith, common_steps, nat_tests, empty)

-- ---- what a delivery was of

-- where this was delivered, the state of a view belongs to it or has nothing to do with it
abbrev pub FitsState : (id view : ℕ) → List Ask → ℕ → State → Type 0
FitsState id view asks w (Waiting until) = Unit {0}
FitsState id view asks w (Asked asked peer deadline) = (asked == id) ≡ false
FitsState id view asks w (Judged judged peer delivered) = (judged == id) ≡ true → (w ≡ view) × (delivered ≡ asks)

abbrev pub FitsAt : (id view : ℕ) → List Ask → ℕ → Option Entry → Type 0
FitsAt id view asks w None = Unit {0}
FitsAt id view asks w (Some entry) = FitsState id view asks w entry.state

pub record Fits (id view : ℕ) (asks : List Ask) (next_id : ℕ) (views : List (ℕ × Entry)) : Type 0 where
  pub drawn : id < next_id
  pub alike : (w : ℕ) → FitsAt id view asks w (entry_at views w)

judged-fits : (id view : ℕ) (asks : List Ask) (w : ℕ) (s : State) → FitsState id view asks w s → is_judged_as id s ≡ true → (w ≡ view) × (delivered_of s ≡ asks)
judged-fits id view asks w (Waiting until) fits judged = cc
judged-fits id view asks w (Asked asked peer deadline) fits judged = cc
judged-fits id view asks w (Judged judged peer delivered) fits is = fits is

-- the view that is judged under the delivery's number is its view, and was asked this
pub judged-view : (id view : ℕ) (asks : List Ask) (next_id : ℕ) (views : List (ℕ × Entry)) (w : ℕ) (entry : Entry) → Rising views → Fits id view asks next_id views
    → judged_view id views ≡ Some w → entry_at views w ≡ Some entry → (w ≡ view) × (delivered_of entry.state ≡ asks)
judged-view id view asks next_id views w entry s fits found at =
    let passed : passes (λ (e : Entry). is_judged_as id e.state) (entry_at views w) ≡ true = first_view-some (λ e. is_judged_as id e.state) views w s found in
    judged-fits id view asks w entry.state (subst (FitsAt id view asks w) at (fits.alike w)) (subst (λ o. passes (λ (e : Entry). is_judged_as id e.state) o ≡ true) at passed)

asked-other : (id sender other view : ℕ) (asks : List Ask) (w : ℕ) (s : State) → is_asked_as id sender s ≡ true → FitsState other view asks w s → (id == other) ≡ false
asked-other id sender other view asks w (Waiting until) is fits = cc
asked-other id sender other view asks w (Asked asked peer deadline) is fits = grind (arith, common_steps, nat_tests, is, fits)
asked-other id sender other view asks w (Judged judged peer delivered) is fits = cc

free-fits : (id view : ℕ) (asks : List Ask) (w : ℕ) (s : State) → is_value id (id_of s) ≡ false → FitsState id view asks w s
free-fits id view asks w (Waiting until) free = tt
free-fits id view asks w (Asked asked peer deadline) free = grind (arith, common_steps, nat_tests, free)
free-fits id view asks w (Judged judged peer delivered) free = λ is. absurd (eqb-false id judged free (sym (eqb-true judged id is)))

free-at : (id view : ℕ) (asks : List Ask) (w : ℕ) (o : Option Entry) → has_id id o ≡ false → FitsAt id view asks w o
free-at id view asks w None free = tt
free-at id view asks w (Some entry) free = free-fits id view asks w entry.state free

-- ---- what holds of a fetcher: the numbers are drawn once, some deliveries fit, and wanted views are asked for

pub record Right (F : ℕ → ℕ → List Ask → Type 0) (Wants : ℕ → Type 0) (next_id : ℕ) (views : List (ℕ × Entry)) : Type 0 where
  pub rising : Rising views
  pub drawn : (id view : ℕ) → has_id id (entry_at views view) ≡ true → id < next_id
  pub once : (id v w : ℕ) → has_id id (entry_at views v) ≡ true → has_id id (entry_at views w) ≡ true → v ≡ w
  pub fits : (id view : ℕ) (asks : List Ask) → F id view asks → Fits id view asks next_id views
  pub asked : (view : ℕ) → Wants view → has_ask is_backfill (entry_at views view) ≡ true

-- whether nothing is delivered
abbrev pub is_plain : Out → Bool
is_plain (out.Deliver id view bytes asks) = false
is_plain _ = true

abbrev pub are_plain : List Out → Bool
are_plain outs = list_all is_plain outs

left-plain : (state : State) → are_plain (left_of state) ≡ true
left-plain (Waiting until) = refl
left-plain (Asked id peer deadline) = refl
left-plain (Judged id peer delivered) = refl

blocked-plain : (verdict : Option Outcome) (state : State) (m : Machine) → are_plain (blocked_by verdict state m).outs ≡ true
blocked-plain (Some outcome.Invalid) (Judged id peer delivered) m = refl
blocked-plain _ _ m = refl

-- whether the ask for a gap stays at the view
abbrev pub spares : Retire → ℕ → Bool
spares retire view = not (reaches retire view && retires retire (backfill 0).ask)

module _ (F : ℕ → ℕ → List Ask → Type 0) (Wants : ℕ → Type 0) where
  abbrev RightIn : Machine → Type 0
  RightIn m = Right F Wants m.next_id m.views

  -- and nothing was delivered
  pub record Kept (after : After) : Type 0 where
    pub right : Right F Wants after.fetcher.next_id after.fetcher.views
    pub plain : are_plain after.outs ≡ true

  -- the entry has the ask for a gap that is wanted
  abbrev Spares : ℕ → Entry → List (ℕ × Entry) → Type 0
  Spares view entry views = Wants view → has_ask is_backfill (entry_at views view) ≡ true → asks_any is_backfill entry.arrivals ≡ true

  spares-same : (view : ℕ) (entry : Entry) (views : List (ℕ × Entry)) → entry_at views view ≡ Some entry → Spares view entry views
  spares-same view entry views at wants held = subst (λ o. has_ask is_backfill o ≡ true) at held

  -- ---- one entry more, and one less

  put-right : (w : ℕ) (entry : Entry) (n : ℕ) (m : Machine) → m.next_id ≤ n
      → ((id : ℕ) → is_value id (id_of entry.state) ≡ true → (has_id id (entry_at m.views w) ≡ true) ⊎ ((m.next_id ≤ id) × (id < n)))
      → ((id view : ℕ) (asks : List Ask) → Fits id view asks m.next_id m.views → FitsState id view asks w entry.state)
      → Spares w entry m.views → RightIn m → Right F Wants n (with_entry w entry m.views)
  put-right w entry n m more ids states asks r =
      let put = with_entry w entry m.views in
      record {
        rising = rising_put w entry m.views r.rising;
        drawn = λ id v. put-cases (λ o. has_id id o ≡ true → id < n) w entry m.views v
            (λ same has. elim (ids id has) [
              | inl old ↦ let below = r.drawn id w old in omega arith
              | inr new ↦ new.1
            ])
            (λ apart has. let below = r.drawn id v has in omega arith);
        once = λ id a b. put-cases (λ o. has_id id o ≡ true → has_id id (entry_at put b) ≡ true → a ≡ b) w entry m.views a
            (λ a_same a_has. put-cases (λ o. has_id id o ≡ true → a ≡ b) w entry m.views b
            (λ b_same b_has. sym a_same ∙ b_same)
            (λ apart b_has. elim (ids id a_has) [
              | inl old ↦ sym a_same ∙ r.once id w b old b_has
              | inr new ↦ let below = r.drawn id b b_has in absurd (omega (arith, new.0))
            ]))
            (λ apart a_has. put-cases (λ o. has_id id o ≡ true → a ≡ b) w entry m.views b
            (λ b_same b_has. elim (ids id b_has) [
              | inl old ↦ r.once id a w a_has old ∙ b_same
              | inr new ↦ let below = r.drawn id a a_has in absurd (omega (arith, new.0))
            ])
            (λ apart b_has. r.once id a b a_has b_has));
        fits = λ id view asked f. let fitted = r.fits id view asked f in record {
          drawn = let below = fitted.drawn in omega arith;
          alike = λ v. put-cases (FitsAt id view asked v) w entry m.views v
              (λ same. subst (λ q. FitsState id view asked q entry.state) same (states id view asked fitted))
              (λ apart. fitted.alike v);
        };
        asked = λ v wants. put-cases (λ o. has_ask is_backfill o ≡ true) w entry m.views v
            (λ same. asks (subst Wants (sym same) wants) (subst (λ q. has_ask is_backfill (entry_at m.views q) ≡ true) (sym same) (r.asked v wants)))
            (λ apart. r.asked v wants);
      }

  forgotten-right : (w : ℕ) (m : Machine) → (Wants w → has_ask is_backfill (entry_at m.views w) ≡ true → ⊥) → RightIn m → Right F Wants m.next_id (without_entry w m.views)
  forgotten-right w m never r = record {
    rising = rising_taken w m.views r.rising;
    drawn = λ id v. taken-cases (λ o. has_id id o ≡ true → id < m.next_id) w m.views v r.rising (λ same has. cc) (λ apart has. r.drawn id v has);
    once = λ id a b. taken-cases (λ o. has_id id o ≡ true → has_id id (entry_at (without_entry w m.views) b) ≡ true → a ≡ b) w m.views a r.rising
        (λ same has. cc)
        (λ apart a_has. taken-cases (λ o. has_id id o ≡ true → a ≡ b) w m.views b r.rising (λ same has. cc) (λ apart b_has. r.once id a b a_has b_has));
    fits = λ id view asked f. let fitted = r.fits id view asked f in record {
      drawn = fitted.drawn;
      alike = λ v. taken-cases (FitsAt id view asked v) w m.views v r.rising (λ same. tt) (λ apart. fitted.alike v);
    };
    asked = λ v wants. taken-cases (λ o. has_ask is_backfill o ≡ true) w m.views v r.rising
        (λ same. absurd (never (subst Wants (sym same) wants) (subst (λ q. has_ask is_backfill (entry_at m.views q) ≡ true) (sym same) (r.asked v wants))))
        (λ apart. r.asked v wants);
  }

  -- ---- attempts

  waiting-right : (view : ℕ) (until : Option ℕ) (entry : Entry) (m : Machine) → Spares view entry m.views → RightIn m → Right F Wants m.next_id (with_entry view (in_state (Waiting until) entry) m.views)
  waiting-right view until entry m asks r = put-right view (in_state (Waiting until) entry) m.next_id m (omega arith) (λ id has. cc) (λ id v asked fits. tt) asks r

  retrying-right : (now view : ℕ) (entry : Entry) (m : Machine) → Spares view entry m.views → RightIn m → RightIn (retrying now view entry m)
  unfolding retrying
  retrying-right now view entry m asks r = waiting-right view _ entry m asks r

  asking-kept : (now view : ℕ) (entry : Entry) (m : Machine) (peer : Option ℕ) → Spares view entry m.views → RightIn m → Kept (asking now view entry m peer)
  unfolding asking
  asking-kept now view entry m None asks r =
      elim (m.config.n == 1) as (λ b. Kept (quiet (if b then fetch.keeping view (in_state (Waiting None) entry) m else retrying now view (fetch.once_more entry) m))) [
        | true ↦ record { right = waiting-right view None entry m asks r; plain = refl }
        | false ↦ record { right = retrying-right now view (fetch.once_more entry) m asks r; plain = refl }
      ]
  asking-kept now view entry m (Some peer) asks r = record {
    right = put-right view (record entry { attempts = entry.attempts + 1; state = Asked m.next_id peer (now + m.config.fetch_timeout) }) (m.next_id + 1) m (omega arith)
        (λ id has. let is : id ≡ m.next_id = value_here id m.next_id has in inr (omega arith, omega arith))
        (λ id v asked fits. let below = fits.drawn in grind (arith, nat_tests, below)) asks r;
    plain = refl;
  }

  attempted-kept : (now view : ℕ) (entry : Entry) (m : Machine) → Spares view entry m.views → RightIn m → Kept (attempted now view entry m)
  unfolding attempted
  attempted-kept now view entry m asks r = asking-kept now view entry m (peer_of m.config m.blocked view entry) asks r

  attempted_at-kept : (now view : ℕ) (m : Machine) (o : Option Entry) → entry_at m.views view ≡ o → RightIn m → Kept (attempted_at now view m o)
  unfolding attempted_at
  attempted_at-kept now view m None at r = record { right = r; plain = refl }
  attempted_at-kept now view m (Some entry) at r = attempted-kept now view entry m (spares-same view entry m.views at) r

  attempting-kept : (now view : ℕ) (m : Machine) → RightIn m → Kept (attempting now view m)
  unfolding attempting
  attempting-kept now view m r = attempted_at-kept now view m (entry_at m.views view) refl r

  visited-kept : (change : ℕ → Machine → After) (test : ℕ → Bool) → ((view : ℕ) (m : Machine) → test view ≡ true → RightIn m → Kept (change view m))
      → (views : List ℕ) (m : Machine) → list_all test views ≡ true → RightIn m → Kept (visited change views m)
  unfolding visited
  visited-kept change test each [] m all r = record { right = r; plain = refl }
  visited-kept change test each (view ∷ views) m all r =
      let here : test view ≡ true = grind (arith, common_steps, all) in
      let later : list_all test views ≡ true = grind (arith, common_steps, all) in
      let first = each view m here r in
      let others = visited-kept change test each views (change view m).fetcher later first.right in
      record {
        right = others.right;
        plain = list_all-append is_plain (change view m).outs (visited change views (change view m).fetcher).outs ∙ grind (arith, common_steps, first.plain, others.plain);
      }

  all-views : (views : List ℕ) → list_all (λ _. true) views ≡ true
  all-views [] = refl
  all-views (view ∷ views) = all-views views

  -- ---- the clock

  expired_as-kept : (now view : ℕ) (entry : Entry) (m : Machine) (state : State) → entry_at m.views view ≡ Some entry → RightIn m → Kept (expired_as now view entry m state)
  unfolding expired_as
  expired_as-kept now view entry m (Asked id peer deadline) at r = record { right = retrying-right now view entry m (spares-same view entry m.views at) r; plain = refl }
  expired_as-kept now view entry m (Waiting until) at r = attempted-kept now view entry m (spares-same view entry m.views at) r
  expired_as-kept now view entry m (Judged id peer delivered) at r = record { right = r; plain = refl }

  expired_at-kept : (now view : ℕ) (m : Machine) (o : Option Entry) → entry_at m.views view ≡ o → RightIn m → Kept (expired_at now view m o)
  unfolding expired_at
  expired_at-kept now view m None at r = record { right = r; plain = refl }
  expired_at-kept now view m (Some entry) at r = expired_as-kept now view entry m entry.state at r

  pub expired-kept : (now : ℕ) (m : Machine) → RightIn m → Kept (expired now m)
  unfolding expired expiring
  expired-kept now m r = visited-kept (expiring now) (λ _. true) (λ view m t r. expired_at-kept now view m (entry_at m.views view) refl r)
      (views_where (λ view entry. is_due now entry) m.views) m (all-views (views_where (λ view entry. is_due now entry) m.views)) r

  -- ---- fetches

  entry_with-ids : (arrival : Arrival) (o : Option Entry) (id : ℕ) → is_value id (id_of (entry_with arrival o).state) ≡ true → has_id id o ≡ true
  entry_with-ids arrival None id has = cc
  entry_with-ids arrival (Some entry) id has = has

  entry_with-fits : (arrival : Arrival) (o : Option Entry) (id view : ℕ) (asks : List Ask) (w : ℕ) → FitsAt id view asks w o → FitsState id view asks w (entry_with arrival o).state
  entry_with-fits arrival None id view asks w fits = tt
  entry_with-fits arrival (Some entry) id view asks w fits = fits

  adding-right : (fetching : Fetching) (m : Machine) → RightIn m → RightIn (adding fetching m)
  unfolding adding
  adding-right fetching m r =
      let at = entry_at m.views fetching.view in
      put-right fetching.view (entry_with fetching.arrival at) m.next_id m (omega arith)
      (λ id has. inl (entry_with-ids fetching.arrival at id has))
      (λ id view asked fits. entry_with-fits fetching.arrival at id view asked fetching.view (fits.alike fetching.view))
      (λ wants held. entry-kept is_backfill fetching.arrival at held) r

  pub beside-right : (fetchings : List Fetching) (now : ℕ) (new : List ℕ) (m : Machine) → RightIn m → Kept (fetched_beside fetchings now new m)
  unfolding fetched_beside
  beside-right [] now new m r = visited-kept (attempting now) (λ _. true) (λ view m t r. attempting-kept now view m r) new m (all-views new) r
  beside-right (fetching ∷ others) now new m r = beside-right others now (noting fetching m new) (adding fetching m) (adding-right fetching m r)

  -- ---- what is done with

  kept_or_left-kept : (view : ℕ) (old entry : Entry) (m : Machine) → entry_at m.views view ≡ Some old → entry.state ≡ old.state → Spares view entry m.views
      → RightIn m → Kept (kept_or_left view entry m)
  unfolding kept_or_left
  kept_or_left-kept view old entry m at same asks r =
      elim (is_empty entry) as (λ b. is_empty entry ≡ b → Kept (if b then record { fetcher = fetch.forgetting view m; outs = left_of entry.state } else quiet (fetch.keeping view entry m))) [
        | true ↦ λ empty. record { right = forgotten-right view m (λ wants held. none-empty entry empty (asks wants held)) r; plain = left-plain entry.state }
        | false ↦ λ some. record {
          right = put-right view entry m.next_id m (omega arith)
              (λ id has. inl (subst (λ o. has_id id o ≡ true) (sym at) (subst (λ s. is_value id (id_of s) ≡ true) same has)))
              (λ id v asked fits. subst (FitsState id v asked view) (sym same) (subst (FitsAt id v asked view) at (fits.alike view))) asks r;
          plain = refl;
        }
      ] refl

  retired_at-kept : (retire : Retire) (view : ℕ) (m : Machine) (o : Option Entry) → entry_at m.views view ≡ o → (Wants view → retires retire (backfill 0).ask ≡ false)
      → RightIn m → Kept (retired_at retire view m o)
  unfolding retired_at
  retired_at-kept retire view m None at spared r = record { right = r; plain = refl }
  retired_at-kept retire view m (Some entry) at spared r =
      kept_or_left-kept view entry (without (retires retire) entry) m at refl
      (λ wants held. without-kept (retires retire) (spared wants) entry.arrivals (spares-same view entry m.views at wants held)) r

  where-reached : (retire : Retire) (views : List (ℕ × Entry)) → list_all (reaches retire) (views_where (λ view entry. reaches retire view) views) ≡ true
  unfolding views_where
  where-reached retire [] = refl
  where-reached retire (e ∷ es) = let rest = where-reached retire es in
      elim (reaches retire e.0) as (λ b. reaches retire e.0 ≡ b → list_all (reaches retire) (if b then e.0 ∷ views_where (λ view entry. reaches retire view) es else views_where (λ view entry. reaches retire view) es) ≡ true) [
        | true ↦ λ yes. ap (λ b. b && list_all (reaches retire) (views_where (λ view entry. reaches retire view) es)) yes ∙ rest
        | false ↦ λ no. rest
      ] refl

  spared-ask : (retire : Retire) (view : ℕ) → spares retire view ≡ true → reaches retire view ≡ true → retires retire (backfill 0).ask ≡ false
  spared-ask retire view spared reached = grind (arith, common_steps, spared, reached)

  pub retained-kept : (retire : Retire) (m : Machine) → ((view : ℕ) → Wants view → spares retire view ≡ true) → RightIn m → Kept (retained retire m)
  unfolding retained fetch.retiring
  retained-kept retire m spared r =
      visited-kept (fetch.retiring retire) (reaches retire)
      (λ view m reached r. retired_at-kept retire view m (entry_at m.views view) refl (λ wants. spared-ask retire view (spared view wants) reached) r)
      (views_where (λ view entry. reaches retire view) m.views) m (where-reached retire m.views) r

  -- ---- verdicts

  asked_on-kept : (now view : ℕ) (others : Entry) (m : Machine) → Spares view others m.views → RightIn m → Kept (asked_on now view others m)
  unfolding asked_on
  asked_on-kept now view others m asks r =
      elim (is_empty others) as (λ b. is_empty others ≡ b → Kept (if b then quiet (fetch.forgetting view m) else attempted now view others m)) [
        | true ↦ λ empty. record { right = forgotten-right view m (λ wants held. none-empty others empty (asks wants held)) r; plain = refl }
        | false ↦ λ some. attempted-kept now view others m asks r
      ] refl

  judged_as-kept : (verdict : Option Outcome) (now view : ℕ) (entry : Entry) (m : Machine) → entry_at m.views view ≡ Some entry
      → (is_done verdict ≡ true → Wants view → holds_ask (delivered_of entry.state) (backfill 0).ask ≡ false) → RightIn m → Kept (judged_as verdict now view entry m)
  unfolding judged_as
  judged_as-kept verdict now view entry m at spared r =
      elim (is_done verdict) as (λ b. is_done verdict ≡ b → Kept (if b then asked_on now view (without (holds_ask (delivered_of entry.state)) entry) m else blocked_by verdict entry.state (retrying now view entry m))) [
        | true ↦ λ done. asked_on-kept now view (without (holds_ask (delivered_of entry.state)) entry) m
            (λ wants held. without-kept (holds_ask (delivered_of entry.state)) (spared done wants) entry.arrivals (spares-same view entry m.views at wants held)) r
        | false ↦ λ open_on.
            let waits = retrying now view entry m in record {
              right = subst₂ (λ n views. Right F Wants n views) (sym (blocked_ids verdict entry.state waits)) (sym (blocked_views verdict entry.state waits))
                  (retrying-right now view entry m (spares-same view entry m.views at) r);
              plain = blocked-plain verdict entry.state waits;
            }
      ] refl

  judged_entry-kept : (verdict : Option Outcome) (now view : ℕ) (m : Machine) (o : Option Entry) → entry_at m.views view ≡ o
      → ((entry : Entry) → o ≡ Some entry → is_done verdict ≡ true → Wants view → holds_ask (delivered_of entry.state) (backfill 0).ask ≡ false)
      → RightIn m → Kept (judged_entry verdict now view m o)
  unfolding judged_entry
  judged_entry-kept verdict now view m None at spared r = record { right = r; plain = refl }
  judged_entry-kept verdict now view m (Some entry) at spared r = judged_as-kept verdict now view entry m at (spared entry refl) r

  judged_at-kept : (verdict : Option Outcome) (now : ℕ) (m : Machine) (o : Option ℕ)
      → ((view : ℕ) (entry : Entry) → o ≡ Some view → entry_at m.views view ≡ Some entry → is_done verdict ≡ true → Wants view → holds_ask (delivered_of entry.state) (backfill 0).ask ≡ false)
      → RightIn m → Kept (judged_at verdict now m o)
  unfolding judged_at
  judged_at-kept verdict now m None spared r = record { right = r; plain = refl }
  judged_at-kept verdict now m (Some view) spared r = judged_entry-kept verdict now view m (entry_at m.views view) refl (λ entry at. spared view entry refl at) r

  -- a verdict closes the ask for a gap only where the delivery was of it, and is done with
  pub judged-kept : (id view : ℕ) (asks : List Ask) (verdict : Option Outcome) (now : ℕ) (m : Machine) → Fits id view asks m.next_id m.views
      → (is_done verdict ≡ true → Wants view → holds_ask asks (backfill 0).ask ≡ false) → RightIn m → Kept (judged id verdict now m)
  unfolding judged
  judged-kept id view asks verdict now m fits spared r =
      judged_at-kept verdict now m (judged_view id m.views)
      (λ w entry found at done wants.
      let of = judged-view id view asks m.next_id m.views w entry r.rising fits found at in
      subst (λ delivered. holds_ask delivered (backfill 0).ask ≡ false) (sym of.1) (spared done (subst Wants of.0 wants))) r

  -- ---- what peers send

  retried-right : (now view : ℕ) (m : Machine) (o : Option Entry) → entry_at m.views view ≡ o → RightIn m → RightIn (retried now view m o)
  unfolding retried
  retried-right now view m None at r = r
  retried-right now view m (Some entry) at r = retrying-right now view entry m (spares-same view entry m.views at) r

  pub refused-right : (now : ℕ) (m : Machine) (o : Option ℕ) → RightIn m → RightIn (refused now m o)
  unfolding refused
  refused-right now m None r = r
  refused-right now m (Some view) r = retried-right now view m (entry_at m.views view) refl r

  -- an answer: the view belongs to its delivery
  pub delivered-right : (sender id view : ℕ) (entry : Entry) (m : Machine) → asked_view id sender m.views ≡ Some view → entry_at m.views view ≡ Some entry → RightIn m
      → (Right F Wants m.next_id (with_entry view (in_state (Judged id sender (asks_of entry.arrivals)) entry) m.views))
      × (Fits id view (asks_of entry.arrivals) m.next_id (with_entry view (in_state (Judged id sender (asks_of entry.arrivals)) entry) m.views))
  delivered-right sender id view entry m found at r =
      let new = in_state (Judged id sender (asks_of entry.arrivals)) entry in
      let passed : passes (λ (e : Entry). is_asked_as id sender e.state) (entry_at m.views view) ≡ true = first_view-some (λ e. is_asked_as id sender e.state) m.views view r.rising found in
      let asked : is_asked_as id sender entry.state ≡ true = subst (λ o. passes (λ (e : Entry). is_asked_as id sender e.state) o ≡ true) at passed in
      let has : has_id id (entry_at m.views view) ≡ true = subst (λ o. has_id id o ≡ true) (sym at) (asked_needs id sender entry.state asked) in (
        put-right view new m.next_id m (omega arith)
            (λ q of. inl (subst (λ n. has_id n (entry_at m.views view) ≡ true) (sym (value_here q id of)) has))
            (λ q v asks fits. λ is. let apart = asked-other id sender q v asks view entry.state asked (subst (FitsAt q v asks view) at (fits.alike view)) in cc)
            (spares-same view entry m.views at) r,
        record {
          drawn = r.drawn id view has;
          alike = λ w. put-cases (FitsAt id view (asks_of entry.arrivals) w) view new m.views w
              (λ same. λ is. (sym same, refl))
              (λ apart. free-at id view (asks_of entry.arrivals) w (entry_at m.views w)
              (elim (has_id id (entry_at m.views w)) as (λ b. has_id id (entry_at m.views w) ≡ b → b ≡ false) [
                | true ↦ λ also. absurd (eqb-false view w apart (r.once id view w has also))
                | false ↦ λ free. refl
              ] refl));
        },
      )
