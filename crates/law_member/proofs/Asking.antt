-- What each call of a fetcher leaves of the asks.
use Rattle.std.proofs.Common.{◌≡◌, ℕ, ◌==◌, not, Bool, true, false, List, [], ◌∷◌, ◌++◌, Option, Some, None, Result, Ok, Err, if◌then◌else◌, refl, sym, subst, arith, All, inl, inr}
use Rattle.std.proofs.lemmas.Grind.{common_steps}
use Rattle.std.proofs.lemmas.Bool.{eqb-true, cases_order}
use Rattle.std.proofs.lemmas.Bool.Decides.{nat_tests}
use Rattle.std.proofs.lemmas.List.Elements.{All-nil, All-cons, All-head, All-tail, All-push, All-weaker, All-filter}
use Rattle.std.specs.List.{list_any}
use Rattle.std.specs.Option.{IfSome}
use Rattle.std.specs.Cmp.{unsigned_tied}
use Rattle.simplex_values.specs.declared.ask.Ask.{Ask}
use Rattle.simplex_values.specs.declared.ask.Outcome.{Outcome}
use Rattle.simplex_wire.specs.declared.error.DecodeError.{DecodeError}
use Rattle.simplex_wire.specs.declared.resolver.ResolverMessage.{ResolverMessage}
use Rattle.simplex_wire.specs.declared.resolver.ResolverBody.{ResolverBody}
use Rattle.simplex_wire.specs.declared.resolver.ResolverBody.TheVariants as body
use Rattle.simplex_wire.specs.Format.{whole}
use Rattle.simplex_wire.specs.ResolverMessage.{resolver_message}
use Rattle.model_resolver.specs.declared.arrivals.Arrival.{Arrival}
use Rattle.model_resolver.specs.declared.entry.State.{State}
use Rattle.model_resolver.specs.declared.entry.State.TheVariants.{Waiting, Asked, Judged}
use Rattle.model_resolver.specs.declared.entry.Entry.{Entry}
use Rattle.model_resolver.specs.declared.retire.Retire.{Retire}
use Rattle.model_resolver.specs.Asks.{holds_ask, same_arrival, with_arrival, without_asks}
use Rattle.model_resolver.specs.Retirement.{reaches, retires}
use Rattle.model_resolver.specs.Views.{entry_at, with_entry, without_entry, views_where, asked_view, judged_view, is_due}
use Rattle.model_resolver.specs.Fetcher as fetch
use Rattle.model_resolver.specs.Fetcher.{Machine, After, Fetching, visited, in_state, peer_of, asking, attempted, attempted_at, attempting, retrying, entry_with, adding, noting, fetched_beside, without, is_empty, kept_or_left, retired_at, retiring, retained, requested, delivered, answered, retried, refused, heard_body, heard_message, heard, delivered_of, blocked_by, is_done, asked_on, judged_as, judged_entry, judged_at, judged, expired_as, expired_at, expiring, expired}
use Rattle.simplex_fetch.proofs.Entries.{Rising, above_head, tail_rises, entry_at-above, entry_at-put, entry_at-taken, rising_put, rising_taken}
use Rattle.simplex_fetch.proofs.Taken.{blocked_views}
use Rattle.law_member.proofs.RepairEnding.{spares}

-- each ask of the view, if there is one, is so
abbrev pub AsksAt : (ℕ → Ask → Type 0) → ℕ → Option Entry → Type 0
AsksAt P view o = IfSome o (λ entry. All (λ arrival. P view arrival.ask) entry.arrivals)

-- the views rise, and each ask of each view is so
pub record AllAre (P : ℕ → Ask → Type 0) (views : List (ℕ × Entry)) : Type 0 where
  pub rising : Rising views
  pub asks : (view : ℕ) → AsksAt P view (entry_at views view)

-- what follows from what each ask is
pub weaker-at : (P Q : ℕ → Ask → Type 0) (q : ℕ) → ((ask : Ask) → P q ask → Q q ask) → (o : Option Entry) → AsksAt P q o → AsksAt Q q o
weaker-at P Q q more None p = tt
weaker-at P Q q more (Some e) p = All-weaker (λ (a : Arrival). P q a.ask) (λ a. Q q a.ask) (λ a is. more a.ask is) e.arrivals p

-- ---- one entry more, and one less

gone : (v : ℕ) (es : List (ℕ × Entry)) → Rising es → entry_at (without_entry v es) v ≡ None
unfolding entry_at without_entry
gone v [] s = refl
gone v (x ∷ es) s = elim (cases_order v x.0) [
  | inl same ↦
      let none : entry_at es v ≡ None = entry_at-above v es (rw same (above_head x es s)) in
      grind (arith, common_steps, nat_tests, none, unsigned_tied v x.0)
  | inr (inl below) ↦ let rest = gone v es (tail_rises x es s) in grind (arith, common_steps, nat_tests, rest, unsigned_tied v x.0)
  | inr (inr above) ↦ let rest = gone v es (tail_rises x es s) in grind (arith, common_steps, nat_tests, rest, unsigned_tied v x.0)
]

pub put-are : (P Q : ℕ → Ask → Type 0) (v : ℕ) (entry : Entry) (views : List (ℕ × Entry)) → ((q : ℕ) (ask : Ask) → (v == q) ≡ false → P q ask → Q q ask)
    → All (λ arrival. Q v arrival.ask) entry.arrivals → AllAre P views → AllAre Q (with_entry v entry views)
put-are P Q v entry views more here all = record {
  rising = rising_put v entry views all.rising;
  asks = λ q. subst (AsksAt Q q) (sym (entry_at-put v entry views q))
      (elim (v == q) as (λ b. (v == q) ≡ b → AsksAt Q q (if b then Some entry else entry_at views q)) [
        | true ↦ λ same. subst (λ (n : ℕ). All (λ arrival. Q n arrival.ask) entry.arrivals) (eqb-true v q same) here
        | false ↦ λ apart. weaker-at P Q q (λ ask p. more q ask apart p) (entry_at views q) (all.asks q)
      ] refl);
}

pub take-are : (P Q : ℕ → Ask → Type 0) (v : ℕ) (views : List (ℕ × Entry)) → ((q : ℕ) (ask : Ask) → (v == q) ≡ false → P q ask → Q q ask)
    → AllAre P views → AllAre Q (without_entry v views)
take-are P Q v views more all = record {
  rising = rising_taken v views all.rising;
  asks = λ q. elim (v == q) as (λ b. (v == q) ≡ b → AsksAt Q q (entry_at (without_entry v views) q)) [
    | true ↦ λ same. subst (λ (n : ℕ). AsksAt Q n (entry_at (without_entry v views) n)) (eqb-true v q same) (subst (AsksAt Q v) (sym (gone v views all.rising)) tt)
    | false ↦ λ apart. subst (AsksAt Q q) (sym (entry_at-taken v views q apart)) (weaker-at P Q q (λ ask p. more q ask apart p) (entry_at views q) (all.asks q))
  ] refl;
}

pub weaker-are : (P Q : ℕ → Ask → Type 0) (views : List (ℕ × Entry)) → ((q : ℕ) (ask : Ask) → P q ask → Q q ask) → AllAre P views → AllAre Q views
weaker-are P Q views more all = record { rising = all.rising; asks = λ q. weaker-at P Q q (more q) (entry_at views q) (all.asks q) }

-- ---- what adds no ask

module _ (P : ℕ → Ask → Type 0) where
  abbrev Are : Machine → Type 0
  Are m = AllAre P m.views

  abbrev Here : ℕ → Entry → Type 0
  Here view entry = All (λ arrival. P view arrival.ask) entry.arrivals

  same-put : (view : ℕ) (entry : Entry) (views : List (ℕ × Entry)) → Here view entry → AllAre P views → AllAre P (with_entry view entry views)
  same-put view entry views here all = put-are P P view entry views (λ q ask apart p. p) here all

  same-take : (view : ℕ) (views : List (ℕ × Entry)) → AllAre P views → AllAre P (without_entry view views)
  same-take view views all = take-are P P view views (λ q ask apart p. p) all

  retrying-are : (now view : ℕ) (entry : Entry) (m : Machine) → Here view entry → Are m → Are (retrying now view entry m)
  unfolding retrying
  retrying-are now view entry m here all = same-put view _ m.views here all

  asking-are : (now view : ℕ) (entry : Entry) (m : Machine) (peer : Option ℕ) → Here view entry → Are m → Are (asking now view entry m peer).fetcher
  unfolding asking
  asking-are now view entry m None here all =
      elim (m.config.n == 1) as (λ b. Are (if b then fetch.keeping view (in_state (Waiting None) entry) m else retrying now view (fetch.once_more entry) m)) [
        | true ↦ same-put view _ m.views here all
        | false ↦ retrying-are now view (fetch.once_more entry) m here all
      ]
  asking-are now view entry m (Some peer) here all = same-put view _ m.views here all

  attempted-are : (now view : ℕ) (entry : Entry) (m : Machine) → Here view entry → Are m → Are (attempted now view entry m).fetcher
  unfolding attempted
  attempted-are now view entry m here all = asking-are now view entry m (peer_of m.config m.blocked view entry) here all

  attempted_at-are : (now view : ℕ) (m : Machine) (o : Option Entry) → AsksAt P view o → Are m → Are (attempted_at now view m o).fetcher
  unfolding attempted_at
  attempted_at-are now view m None here all = all
  attempted_at-are now view m (Some entry) here all = attempted-are now view entry m here all

  attempting-are : (now view : ℕ) (m : Machine) → Are m → Are (attempting now view m).fetcher
  unfolding attempting
  attempting-are now view m all = attempted_at-are now view m (entry_at m.views view) (all.asks view) all

  visited-are : (change : ℕ → Machine → After) → ((view : ℕ) (m : Machine) → Are m → Are (change view m).fetcher) → (views : List ℕ) (m : Machine) → Are m → Are (visited change views m).fetcher
  unfolding visited
  visited-are change each [] m all = all
  visited-are change each (view ∷ views) m all = visited-are change each views (change view m).fetcher (each view m all)

  -- ---- the clock

  expired_as-are : (now view : ℕ) (entry : Entry) (m : Machine) (state : State) → Here view entry → Are m → Are (expired_as now view entry m state).fetcher
  unfolding expired_as
  expired_as-are now view entry m (Asked id peer deadline) here all = retrying-are now view entry m here all
  expired_as-are now view entry m (Waiting until) here all = attempted-are now view entry m here all
  expired_as-are now view entry m (Judged id peer delivered) here all = all

  expired_at-are : (now view : ℕ) (m : Machine) (o : Option Entry) → AsksAt P view o → Are m → Are (expired_at now view m o).fetcher
  unfolding expired_at
  expired_at-are now view m None here all = all
  expired_at-are now view m (Some entry) here all = expired_as-are now view entry m entry.state here all

  pub expired-are : (now : ℕ) (m : Machine) → Are m → Are (expired now m).fetcher
  unfolding expired expiring
  expired-are now m all =
      visited-are (expiring now) (λ view m all. expired_at-are now view m (entry_at m.views view) (all.asks view) all) (views_where (λ view entry. is_due now entry) m.views) m all

  -- ---- verdicts

  without-here : (view : ℕ) (test : Ask → Bool) (entry : Entry) → Here view entry → Here view (without test entry)
  without-here view test entry here = All-filter (λ (arrival : Arrival). not (test arrival.ask)) (λ arrival. P view arrival.ask) entry.arrivals here

  asked_on-are : (now view : ℕ) (others : Entry) (m : Machine) → Here view others → Are m → Are (asked_on now view others m).fetcher
  unfolding asked_on
  asked_on-are now view others m here all =
      elim (is_empty others) as (λ b. Are (if b then fetch.quiet (fetch.forgetting view m) else attempted now view others m).fetcher) [
        | true ↦ same-take view m.views all
        | false ↦ attempted-are now view others m here all
      ]

  judged_as-are : (verdict : Option Outcome) (now view : ℕ) (entry : Entry) (m : Machine) → Here view entry → Are m → Are (judged_as verdict now view entry m).fetcher
  unfolding judged_as
  judged_as-are verdict now view entry m here all =
      elim (is_done verdict) as (λ b. Are (if b then asked_on now view (without (holds_ask (delivered_of entry.state)) entry) m else blocked_by verdict entry.state (retrying now view entry m)).fetcher) [
        | true ↦ asked_on-are now view _ m (without-here view (holds_ask (delivered_of entry.state)) entry here) all
        | false ↦ subst (AllAre P) (sym (blocked_views verdict entry.state (retrying now view entry m))) (retrying-are now view entry m here all)
      ]

  judged_entry-are : (verdict : Option Outcome) (now view : ℕ) (m : Machine) (o : Option Entry) → AsksAt P view o → Are m → Are (judged_entry verdict now view m o).fetcher
  unfolding judged_entry
  judged_entry-are verdict now view m None here all = all
  judged_entry-are verdict now view m (Some entry) here all = judged_as-are verdict now view entry m here all

  judged_at-are : (verdict : Option Outcome) (now : ℕ) (m : Machine) (o : Option ℕ) → Are m → Are (judged_at verdict now m o).fetcher
  unfolding judged_at
  judged_at-are verdict now m None all = all
  judged_at-are verdict now m (Some view) all = judged_entry-are verdict now view m (entry_at m.views view) (all.asks view) all

  pub judged-are : (id : ℕ) (verdict : Option Outcome) (now : ℕ) (m : Machine) → Are m → Are (judged id verdict now m).fetcher
  unfolding judged
  judged-are id verdict now m all = judged_at-are verdict now m (judged_view id m.views) all

  -- ---- what peers send

  delivered-are : (sender id : ℕ) (bytes : List ℕ) (view : ℕ) (m : Machine) (o : Option Entry) → AsksAt P view o → Are m → Are (delivered sender id bytes view m o).fetcher
  unfolding delivered
  delivered-are sender id bytes view m None here all = all
  delivered-are sender id bytes view m (Some entry) here all = same-put view _ m.views here all

  answered-are : (sender id : ℕ) (bytes : List ℕ) (m : Machine) (o : Option ℕ) → Are m → Are (answered sender id bytes m o).fetcher
  unfolding answered
  answered-are sender id bytes m None all = all
  answered-are sender id bytes m (Some view) all = delivered-are sender id bytes view m (entry_at m.views view) (all.asks view) all

  retried-are : (now view : ℕ) (m : Machine) (o : Option Entry) → AsksAt P view o → Are m → Are (retried now view m o)
  unfolding retried
  retried-are now view m None here all = all
  retried-are now view m (Some entry) here all = retrying-are now view entry m here all

  refused-are : (now : ℕ) (m : Machine) (o : Option ℕ) → Are m → Are (refused now m o)
  unfolding refused
  refused-are now m None all = all
  refused-are now m (Some view) all = retried-are now view m (entry_at m.views view) (all.asks view) all

  body-are : (sender id now : ℕ) (m : Machine) (about : ResolverBody) → Are m → Are (heard_body sender id now m about).fetcher
  unfolding heard_body requested
  body-are sender id now m (body.Request view) all = record { rising = all.rising; asks = all.asks }
  body-are sender id now m (body.Response bytes) all = answered-are sender id bytes m (asked_view id sender m.views) all
  body-are sender id now m body.Error all = refused-are now m (asked_view id sender m.views) all

  message-are : (sender now : ℕ) (m : Machine) (read : Result ResolverMessage DecodeError) → Are m → Are (heard_message sender now m read).fetcher
  unfolding heard_message fetch.blocking
  message-are sender now m (Err fault) all = all
  message-are sender now m (Ok message) all = body-are sender message.id now m message.body all

  pub heard-are : (sender : ℕ) (bytes : List ℕ) (now : ℕ) (m : Machine) → Are m → Are (heard sender bytes now m).fetcher
  unfolding heard
  heard-are sender bytes now m all = message-are sender now m (whole resolver_message bytes) all

  -- ---- fetches

  arrival-here : (view : ℕ) (arrival : Arrival) (arrivals : List Arrival) → P view arrival.ask → All (λ a. P view a.ask) arrivals → All (λ a. P view a.ask) (with_arrival arrival arrivals)
  arrival-here view arrival arrivals new here =
      elim (list_any (same_arrival arrival) arrivals) as (λ b. All (λ (a : Arrival). P view a.ask) (if b then arrivals else arrivals ++ arrival ∷ [])) [
        | true ↦ here
        | false ↦ All-push (λ (a : Arrival). P view a.ask) arrivals arrival here new
      ]

  entry-here : (view : ℕ) (arrival : Arrival) (o : Option Entry) → P view arrival.ask → AsksAt P view o → Here view (entry_with arrival o)
  entry-here view arrival None new here = arrival-here view arrival [] new (All-nil (λ (a : Arrival). P view a.ask))
  entry-here view arrival (Some entry) new here = arrival-here view arrival entry.arrivals new here

  adding-are : (fetching : Fetching) (m : Machine) → P fetching.view fetching.arrival.ask → Are m → Are (adding fetching m)
  unfolding adding
  adding-are fetching m new all =
      same-put fetching.view _ m.views (entry-here fetching.view fetching.arrival (entry_at m.views fetching.view) new (all.asks fetching.view)) all

  abbrev pub News : List Fetching → Type 0
  News fetchings = All (λ fetching. P fetching.view fetching.arrival.ask) fetchings

  pub beside-are : (fetchings : List Fetching) (now : ℕ) (new : List ℕ) (m : Machine) → News fetchings → Are m → Are (fetched_beside fetchings now new m).fetcher
  unfolding fetched_beside
  beside-are [] now new m news all = visited-are (attempting now) (attempting-are now) new m all
  beside-are (fetching ∷ others) now new m news all =
      beside-are others now _ (adding fetching m) (All-tail (λ (f : Fetching). P f.view f.arrival.ask) fetching others news)
      (adding-are fetching m (All-head (λ (f : Fetching). P f.view f.arrival.ask) fetching others news) all)

-- ---- what is done with

module _ (P : ℕ → Ask → Type 0) (retire : Retire) where
  -- and no ask of a view that was looked at is done with
  abbrev Left : List ℕ → ℕ → Ask → Type 0
  Left views q ask = P q ask × (list_any (λ v. v == q) views ≡ false → spares q ask retire ≡ true)

  spared-here : (q : ℕ) (ask : Ask) → not (retires retire ask) ≡ true → spares q ask retire ≡ true
  spared-here q ask kept = grind (arith, common_steps, kept)

  kept-pass : (view : ℕ) (arrivals : List Arrival) → All (λ a. P view a.ask) arrivals
      → All (λ (a : Arrival). P view a.ask × (spares view a.ask retire ≡ true)) (without_asks (retires retire) arrivals)
  kept-pass view [] here = All-nil (λ (a : Arrival). P view a.ask × (spares view a.ask retire ≡ true))
  kept-pass view (a ∷ arrivals) here =
      let Q : Arrival → Type 0 = λ a. P view a.ask × (spares view a.ask retire ≡ true) in
      let rest = kept-pass view arrivals (All-tail (λ (a : Arrival). P view a.ask) a arrivals here) in
      elim (not (retires retire a.ask)) as (λ b. not (retires retire a.ask) ≡ b → All Q (if b then a ∷ without_asks (retires retire) arrivals else without_asks (retires retire) arrivals)) [
        | true ↦ λ kept. All-cons Q a _ (All-head (λ (a : Arrival). P view a.ask) a arrivals here, spared-here view a.ask kept) rest
        | false ↦ λ dropped. rest
      ] refl

  others-left : (view : ℕ) (views : List ℕ) (q : ℕ) (ask : Ask) → (view == q) ≡ false → Left (view ∷ views) q ask → Left views q ask
  others-left view views q ask apart left = (left.0, λ none. left.1 (grind (arith, common_steps, apart, none)))

  kept-left : (view : ℕ) (views : List ℕ) (entry : Entry) (m : Machine) → All (λ a. P view a.ask) entry.arrivals → AllAre (Left (view ∷ views)) m.views
      → AllAre (Left views) (kept_or_left view (without (retires retire) entry) m).fetcher.views
  unfolding kept_or_left
  kept-left view views entry m here all =
      elim (is_empty (without (retires retire) entry)) as (λ b. AllAre (Left views) (if b then record { fetcher = fetch.forgetting view m; outs = fetch.left_of entry.state } else fetch.quiet (fetch.keeping view (without (retires retire) entry) m)).fetcher.views) [
        | true ↦ take-are (Left (view ∷ views)) (Left views) view m.views (others-left view views) all
        | false ↦ put-are (Left (view ∷ views)) (Left views) view (without (retires retire) entry) m.views (others-left view views)
            (All-weaker (λ (a : Arrival). P view a.ask × (spares view a.ask retire ≡ true)) (λ a. Left views view a.ask) (λ a is. (is.0, λ none. is.1))
            (without_asks (retires retire) entry.arrivals) (kept-pass view entry.arrivals here)) all
      ]

  -- where the view has no entry nothing is left of it
  none-left : (view : ℕ) (views : List ℕ) (all : List (ℕ × Entry)) → entry_at all view ≡ None → AllAre (Left (view ∷ views)) all → AllAre (Left views) all
  none-left view views all none are = record {
    rising = are.rising;
    asks = λ q. elim (view == q) as (λ b. (view == q) ≡ b → AsksAt (Left views) q (entry_at all q)) [
      | true ↦ λ same. subst (λ (n : ℕ). AsksAt (Left views) n (entry_at all n)) (eqb-true view q same) (subst (AsksAt (Left views) view) (sym none) tt)
      | false ↦ λ apart. weaker-at (Left (view ∷ views)) (Left views) q (λ ask left. others-left view views q ask apart left) (entry_at all q) (are.asks q)
    ] refl;
  }

  retired-left : (view : ℕ) (views : List ℕ) (m : Machine) (o : Option Entry) → entry_at m.views view ≡ o → AllAre (Left (view ∷ views)) m.views
      → AllAre (Left views) (retired_at retire view m o).fetcher.views
  unfolding retired_at
  retired-left view views m None at all = none-left view views m.views at all
  retired-left view views m (Some entry) at all =
      kept-left view views entry m
      (All-weaker (λ (a : Arrival). Left (view ∷ views) view a.ask) (λ a. P view a.ask) (λ a left. left.0) entry.arrivals (subst (AsksAt (Left (view ∷ views)) view) at (all.asks view))) all

  visited-left : (views : List ℕ) (m : Machine) → AllAre (Left views) m.views → AllAre (Left []) (visited (retiring retire) views m).fetcher.views
  unfolding visited retiring
  visited-left [] m all = all
  visited-left (view ∷ views) m all = visited-left views _ (retired-left view views m (entry_at m.views view) refl all)

  -- a view that is not reached is not looked at
  reached-listed : (es : List (ℕ × Entry)) (q : ℕ) (entry : Entry) → entry_at es q ≡ Some entry → list_any (λ v. v == q) (views_where (λ view entry. reaches retire view) es) ≡ false → reaches retire q ≡ false
  unfolding entry_at views_where
  reached-listed [] q entry at none = cc
  reached-listed (x ∷ es) q entry at none = grind (arith, common_steps, nat_tests, at, none, unsigned_tied q x.0, reached-listed es q entry)

  first-left : (views : List (ℕ × Entry)) (q : ℕ) (o : Option Entry) → entry_at views q ≡ o → AsksAt P q o → AsksAt (Left (views_where (λ view entry. reaches retire view) views)) q o
  first-left views q None at here = tt
  first-left views q (Some entry) at here =
      All-weaker (λ (a : Arrival). P q a.ask) (λ a. Left (views_where (λ view entry. reaches retire view) views) q a.ask)
      (λ a p. (p, λ none. let past = reached-listed views q entry at none in grind (arith, common_steps, past))) entry.arrivals here

  pub retained-are : (m : Machine) → AllAre P m.views → AllAre (λ q ask. P q ask × (spares q ask retire ≡ true)) (retained retire m).fetcher.views
  unfolding retained
  retained-are m all =
      let views = views_where (λ view entry. reaches retire view) m.views in
      weaker-are (Left []) (λ q ask. P q ask × (spares q ask retire ≡ true)) _ (λ q ask left. (left.0, left.1 refl))
      (visited-left views m (record { rising = all.rising; asks = λ q. first-left m.views q (entry_at m.views q) refl (all.asks q) }))
