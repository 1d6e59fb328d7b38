-- An ask for each view that becomes a gap.
use Rattle.std.proofs.Common.{◌≡◌, ◌∙◌, ℕ, ◌==◌, not, Bool, true, false, List, [], ◌∷◌, ◌++◌, map, filter, Option, Some, None, if◌then◌else◌, refl, ap, arith}
use Rattle.std.proofs.lemmas.Grind.{common_steps}
use Rattle.std.proofs.lemmas.Bool.Decides.{nat_tests}
use Rattle.std.proofs.lemmas.List.Elements.{filter_map-append}
use Rattle.std.proofs.lemmas.List.Folds.{list_any-append}
use Rattle.std.proofs.lemmas.Map.Views.{any-filter_same}
use Rattle.std.specs.List.{list_any, filter_map}
use Rattle.simplex_values.specs.declared.ask.Ask.{Ask}
use Rattle.simplex_wire.specs.declared.certificate.Certificate.TheVariants as certificates
use Rattle.model_rules.specs.declared.effect.Effect.{Effect}
use Rattle.model_rules.specs.declared.effect.Effect.TheVariants as effects
use Rattle.model_rules.specs.Repair.{RepairCall, Updated, Certified, Replayed, is_gap, gaps_of, settled_by, finalized_by, raised_by, fetched_by, effects_of}
use Rattle.simplex_repair.proofs.Lacking.{gaps_listed}
use Rattle.model_resolver.specs.declared.entry.Entry.{Entry}
use Rattle.model_resolver.specs.declared.entry.State.TheVariants.{Waiting}
use Rattle.model_resolver.specs.declared.arrivals.Arrival.{Arrival}
use Rattle.model_resolver.specs.declared.out.Out.{Out}
use Rattle.model_resolver.specs.declared.out.Out.TheVariants as outs
use Rattle.model_resolver.specs.Asks.{same_arrival, same_ask, asks_any, with_arrival}
use Rattle.model_resolver.specs.Views.{entry_at, with_entry}
use Rattle.simplex_fetch.specs.Index.{has_ask}
use Rattle.model_resolver.specs.Fetcher.{Machine, Fetching, of_all, keeping, in_state, once_more, retrying, entry_with, asking, attempted, attempted_at, attempting, visited, adding, noting, fetched_beside, served, peer_of}
use Rattle.simplex_fetch.proofs.Entries.{entry_at-put}
use Rattle.model_resolver.specs.Resolver.{Doing, backfill, fetch_of, retire_of, serving, requested, minded, minded_all, putting, leaving, called, fetching, retiring_all, with_effects}
use Rattle.simplex_resolver.proofs.Moving.{called-all-stays}

-- ---- an attempt changes no ask

entry-same : (test : Ask → Bool) (view : ℕ) (entry other : Entry) (views : List (ℕ × Entry)) (q : ℕ) → entry_at views view ≡ Some entry → other.arrivals ≡ entry.arrivals
    → has_ask test (entry_at (with_entry view other views) q) ≡ has_ask test (entry_at views q)
entry-same test view entry other views q there same = grind (arith, common_steps, nat_tests, there, same, entry_at-put view other views q)

asking-asks : (test : Ask → Bool) (now view : ℕ) (entry : Entry) (m : Machine) (peer : Option ℕ) (q : ℕ) → entry_at m.views view ≡ Some entry
    → has_ask test (entry_at (asking now view entry m peer).fetcher.views q) ≡ has_ask test (entry_at m.views q)
unfolding asking retrying
asking-asks test now view entry m None q there =
    elim (m.config.n == 1) as (λ b. has_ask test (entry_at (if b then keeping view (in_state (Waiting None) entry) m else retrying now view (once_more entry) m).views q) ≡ has_ask test (entry_at m.views q)) [
      | true ↦ entry-same test view entry _ m.views q there refl
      | false ↦ entry-same test view entry _ m.views q there refl
    ]
asking-asks test now view entry m (Some peer) q there = entry-same test view entry _ m.views q there refl

attempted_at-asks : (test : Ask → Bool) (now view : ℕ) (m : Machine) (o : Option Entry) (q : ℕ) → entry_at m.views view ≡ o
    → has_ask test (entry_at (attempted_at now view m o).fetcher.views q) ≡ has_ask test (entry_at m.views q)
unfolding attempted_at attempted
attempted_at-asks test now view m None q there = refl
attempted_at-asks test now view m (Some entry) q there = asking-asks test now view entry m (peer_of m.config m.blocked view entry) q there

visited-asks : (test : Ask → Bool) (now : ℕ) (views : List ℕ) (m : Machine) (q : ℕ)
    → has_ask test (entry_at (visited (attempting now) views m).fetcher.views q) ≡ has_ask test (entry_at m.views q)
unfolding visited attempting
visited-asks test now [] m q = refl
visited-asks test now (view ∷ views) m q =
    visited-asks test now views _ q ∙ attempted_at-asks test now view m (entry_at m.views view) q refl

-- ---- an ask that is added is there, and no ask goes

arrival-kept : (test : Ask → Bool) (arrival : Arrival) (arrivals : List Arrival) → asks_any test arrivals ≡ true → asks_any test (with_arrival arrival arrivals) ≡ true
arrival-kept test arrival arrivals held =
    grind (arith, common_steps, held, list_any-append (λ a. test a.ask) arrivals (arrival ∷ []))

alike-asks : (arrival : Arrival) (arrivals : List Arrival) → list_any (same_arrival arrival) arrivals ≡ true → asks_any (same_ask arrival.ask) arrivals ≡ true
alike-asks arrival [] alike = grind (arith, common_steps, alike)
alike-asks arrival (other ∷ others) alike = grind (arith, common_steps, alike, alike-asks arrival others)

arrival-held : (arrival : Arrival) (arrivals : List Arrival) → same_ask arrival.ask arrival.ask ≡ true → asks_any (same_ask arrival.ask) (with_arrival arrival arrivals) ≡ true
arrival-held arrival arrivals same =
    grind (arith, common_steps, same, alike-asks arrival arrivals, list_any-append (λ a. same_ask arrival.ask a.ask) arrivals (arrival ∷ []))

pub entry-kept : (test : Ask → Bool) (arrival : Arrival) (o : Option Entry) → has_ask test o ≡ true → has_ask test (Some (entry_with arrival o)) ≡ true
entry-kept test arrival None held = grind (arith, common_steps, held)
entry-kept test arrival (Some entry) held = arrival-kept test arrival entry.arrivals held

entry-held : (arrival : Arrival) (o : Option Entry) → same_ask arrival.ask arrival.ask ≡ true → has_ask (same_ask arrival.ask) (Some (entry_with arrival o)) ≡ true
entry-held arrival None same = arrival-held arrival [] same
entry-held arrival (Some entry) same = arrival-held arrival entry.arrivals same

adding-kept : (test : Ask → Bool) (fetching : Fetching) (m : Machine) (q : ℕ) → has_ask test (entry_at m.views q) ≡ true → has_ask test (entry_at (adding fetching m).views q) ≡ true
unfolding adding
adding-kept test fetching m q held =
    grind (arith, common_steps, nat_tests, held, entry_at-put fetching.view (entry_with fetching.arrival (entry_at m.views fetching.view)) m.views q, entry-kept test fetching.arrival (entry_at m.views fetching.view))

adding-held : (fetching : Fetching) (m : Machine) → same_ask fetching.arrival.ask fetching.arrival.ask ≡ true → has_ask (same_ask fetching.arrival.ask) (entry_at (adding fetching m).views fetching.view) ≡ true
unfolding adding
adding-held fetching m same =
    grind (arith, common_steps, nat_tests, entry_at-put fetching.view (entry_with fetching.arrival (entry_at m.views fetching.view)) m.views fetching.view, entry-held fetching.arrival (entry_at m.views fetching.view) same)

-- ---- each view that is fetched is asked for

beside-kept : (test : Ask → Bool) (fetchings : List Fetching) (now : ℕ) (new : List ℕ) (m : Machine) (q : ℕ) → has_ask test (entry_at m.views q) ≡ true
    → has_ask test (entry_at (fetched_beside fetchings now new m).fetcher.views q) ≡ true
unfolding fetched_beside
beside-kept test [] now new m q held = visited-asks test now new m q ∙ held
beside-kept test (fetching ∷ others) now new m q held = beside-kept test others now _ _ q (adding-kept test fetching m q held)

-- the ask for a gap
abbrev pub is_backfill : Ask → Bool
is_backfill = same_ask (backfill 0).ask

beside-held : (gaps : List ℕ) (now : ℕ) (new : List ℕ) (m : Machine) (view : ℕ) → list_any (λ v. v == view) gaps ≡ true
    → has_ask is_backfill (entry_at (fetched_beside (map of_all (map backfill gaps)) now new m).fetcher.views view) ≡ true
unfolding fetched_beside
beside-held [] now new m view listed = grind (arith, common_steps, listed)
beside-held (gap ∷ gaps) now new m view listed =
    elim (gap == view) as (λ b. (gap == view) ≡ b → has_ask is_backfill (entry_at (fetched_beside (map of_all (map backfill gaps)) now (noting (of_all (backfill gap)) m new) (adding (of_all (backfill gap)) m)).fetcher.views view) ≡ true) [
      | true ↦ λ same.
          let held : has_ask is_backfill (entry_at (adding (of_all (backfill gap)) m).views gap) ≡ true = adding-held (of_all (backfill gap)) m refl in
          let at_view : has_ask is_backfill (entry_at (adding (of_all (backfill gap)) m).views view) ≡ true = grind (arith, common_steps, nat_tests, same, held) in
          beside-kept is_backfill (map of_all (map backfill gaps)) now (noting (of_all (backfill gap)) m new) (adding (of_all (backfill gap)) m) view at_view
      | false ↦ λ other.
          let later : list_any (λ v. v == view) gaps ≡ true = grind (arith, common_steps, other, listed) in
          beside-held gaps now (noting (of_all (backfill gap)) m new) (adding (of_all (backfill gap)) m) view later
    ] refl

-- ---- the fetches among the effects

none-if : (test : Bool) (it : Effect) → fetch_of it ≡ None → filter_map fetch_of (if test then it ∷ [] else []) ≡ []
none-if true it none = grind (arith, common_steps, none)
none-if false it none = refl

settled-fetch : (length : ℕ) (held : List RepairCall) (call : RepairCall) → filter_map fetch_of (settled_by length held call) ≡ []
unfolding settled_by
settled-fetch length held (Updated (certificates.Nullification n)) = none-if _ _ refl
settled-fetch length held (Updated (certificates.Notarization n)) = none-if _ _ refl
settled-fetch length held (Updated (certificates.Finalization n)) = refl
settled-fetch length held (Certified n good) = none-if _ _ refl
settled-fetch length held Replayed = refl

none-unless : (test : Bool) (it : Effect) → fetch_of it ≡ None → filter_map fetch_of (if test then [] else it ∷ []) ≡ []
none-unless true it none = refl
none-unless false it none = grind (arith, common_steps, none)

finalized-fetch : (held : List RepairCall) (call : RepairCall) → filter_map fetch_of (finalized_by held call) ≡ []
unfolding finalized_by
finalized-fetch held (Updated (certificates.Finalization n)) = none-unless _ _ refl
finalized-fetch held (Updated (certificates.Notarization n)) = refl
finalized-fetch held (Updated (certificates.Nullification n)) = refl
finalized-fetch held (Certified n good) = refl
finalized-fetch held Replayed = refl

raised-fetch : (held : List RepairCall) (call : RepairCall) → filter_map fetch_of (raised_by held call) ≡ []
unfolding raised_by
raised-fetch held call = none-if _ _ refl

gap-fetch : (gaps : List ℕ) → filter_map fetch_of (map effects.Fetch gaps) ≡ map backfill gaps
gap-fetch [] = refl
gap-fetch (gap ∷ gaps) = ap (λ fs. backfill gap ∷ fs) (gap-fetch gaps)

-- the gaps that there were none before
abbrev pub new_gaps : ℕ → List RepairCall → RepairCall → List ℕ
new_gaps length held call = filter (λ view. not (is_gap length held view)) (gaps_of length (call ∷ held))

effects-fetch : (length : ℕ) (held : List RepairCall) (call : RepairCall) → filter_map fetch_of (effects_of length held call) ≡ map backfill (new_gaps length held call)
unfolding effects_of fetched_by
effects-fetch length held call =
    let gaps = map effects.Fetch (new_gaps length held call) in
    let third = filter_map-append fetch_of (raised_by held call) gaps in
    let second = filter_map-append fetch_of (finalized_by held call) (raised_by held call ++ gaps) in
    let first = filter_map-append fetch_of (settled_by length held call) (finalized_by held call ++ raised_by held call ++ gaps) in
    grind (arith, common_steps, first, second, third, settled-fetch length held call, finalized-fetch held call, raised-fetch held call, gap-fetch (new_gaps length held call))

new-listed : (length : ℕ) (held : List RepairCall) (call : RepairCall) (view : ℕ) → is_gap length (call ∷ held) view ≡ true → is_gap length held view ≡ false
    → list_any (λ v. v == view) (new_gaps length held call) ≡ true
new-listed length held call view is was =
    any-filter_same (λ v. v == view) (λ v. not (is_gap length held v)) true
    (λ v same. grind (arith, common_steps, nat_tests, same, was)) (gaps_of length (call ∷ held))
    ∙ gaps_listed length (call ∷ held) view ∙ is

-- ---- what the fetcher wants moves none of its views

serving-views : (id : ℕ) (bytes : Option (List ℕ)) (doing : Doing) → (serving id bytes doing).standing.fetcher.views ≡ doing.standing.fetcher.views
unfolding serving served
serving-views id bytes doing = ap (λ s. s.fetcher.views) (called-all-stays _ _)

either-views : (test : Bool) (one other : Doing) (doing : Doing) → one.standing.fetcher.views ≡ doing.standing.fetcher.views → other.standing.fetcher.views ≡ doing.standing.fetcher.views
    → (if test then one else other).standing.fetcher.views ≡ doing.standing.fetcher.views
either-views true one other doing p q = p
either-views false one other doing p q = q

minded-views : (out : Out) (doing : Doing) → (minded out doing).standing.fetcher.views ≡ doing.standing.fetcher.views
unfolding minded requested putting leaving called
minded-views (outs.Deliver id view bytes asks) doing = refl
minded-views (outs.Produce id view) doing = either-views _ _ _ doing (serving-views id None _) refl
minded-views (outs.Left id) doing = refl
minded-views (outs.Send to bytes) doing = refl
minded-views (outs.Block member why) doing = refl

minded-all-views : (all : List Out) (doing : Doing) → (minded_all all doing).standing.fetcher.views ≡ doing.standing.fetcher.views
unfolding minded_all
minded-all-views [] doing = refl
minded-all-views (out ∷ others) doing = minded-all-views others (minded out doing) ∙ minded-views out doing

-- ---- each view that becomes a gap is asked for

fetching-held : (gaps : List ℕ) (now : ℕ) (doing : Doing) (view : ℕ) → list_any (λ v. v == view) gaps ≡ true
    → has_ask is_backfill (entry_at (fetching (map of_all (map backfill gaps)) now doing).standing.fetcher.views view) ≡ true
unfolding fetching
fetching-held gaps now doing view listed =
    ap (λ views. has_ask is_backfill (entry_at views view)) (minded-all-views _ _) ∙ beside-held gaps now [] doing.standing.fetcher view listed

pub gap-asked : (length : ℕ) (held : List RepairCall) (call : RepairCall) (now : ℕ) (doing : Doing) (view : ℕ) → is_gap length (call ∷ held) view ≡ true → is_gap length held view ≡ false
    → has_ask is_backfill (entry_at (with_effects now (effects_of length held call) doing).standing.fetcher.views view) ≡ true
unfolding with_effects
gap-asked length held call now doing view is was =
    let retired = retiring_all (filter_map retire_of (effects_of length held call)) doing in
    ap (λ fs. has_ask is_backfill (entry_at (fetching (map of_all fs) now retired).standing.fetcher.views view)) (effects-fetch length held call)
    ∙ fetching-held (new_gaps length held call) now retired view (new-listed length held call view is was)
