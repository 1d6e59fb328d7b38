-- The laws of a fetcher: whom its attempts ask, which answers it delivers, and that it serves once.
use Rattle.std.proofs.Common.{◌≡◌, ℕ, zero, suc, ◌+◌, ◌-◌, ◌*◌, ◌/◌, ◌%◌, ◌<◌, ◌≤◌, ◌==◌, ◌⊎◌, inl, inr, true, false, cond, List, [], ◌∷◌, length, get_or, Contains, Option, Some, None, Result, Ok, Err, refl, sym, ap, ◌∙◌, arith}
use Rattle.std.specs.Prelude.{if◌then◌else◌, slice_get}
use Rattle.std.proofs.lemmas.Nat.{mod-mul-add}
use Rattle.std.proofs.lemmas.Map.{lookup-remove_entry}
use Rattle.std.proofs.lemmas.Map.Keys.{IsDistinct-from_sorted}
use Rattle.std.proofs.lemmas.Cmp.{eq_by_cmp_equiv, nat_cmp_total}
use Rattle.std.specs.Ordering.{nat_cmp, eq_by_cmp}
use Rattle.std.specs.BTreeMap.{is_at}
use Rattle.std.specs.Map.{lookup, remove_entry, keys_of}
use Rattle.std.specs.List.Sorted.{IsStrictlySortedBy}
use Rattle.simplex_values.specs.declared.ask.Ask.{Ask}
use Rattle.simplex_wire.specs.declared.error.DecodeError.{DecodeError}
use Rattle.simplex_wire.specs.declared.resolver.ResolverMessage.{ResolverMessage}
use Rattle.simplex_wire.specs.declared.resolver.ResolverBody.{ResolverBody}
use Rattle.simplex_wire.specs.declared.resolver.ResolverBody.TheVariants as body
use Rattle.model_resolver.specs.declared.config.FetchConfig.{FetchConfig}
use Rattle.model_resolver.specs.declared.entry.Entry.{Entry}
use Rattle.model_resolver.specs.declared.entry.Serving.{Serving}
use Rattle.model_resolver.specs.declared.out.Out.{Out}
use Rattle.model_resolver.specs.declared.out.Out.TheVariants as out
use Rattle.model_resolver.specs.Asks.{is_targeted, targets_of, holds_member}
use Rattle.model_resolver.specs.Views.{entry_at, asked_view}
use Rattle.model_resolver.specs.Fetcher.{Machine, cyclic, unblocked, others_of, peer_of, requested, delivered, answered, heard_body, heard_message, served_as}
use Rattle.simplex_fetch.specs.Laws.{AsksAll, AsksNoneBlocked}
use Rattle.simplex_fetch.proofs.Others.{unblocked_passes, alone}

-- ---- going round

behind : (a b : ℕ) → (a < b) ⊎ (b ≤ a)
behind a b = grind arith

-- some of the next m numbers has this rest
rest_comes : (m place w : ℕ) → 0 < m → place < m → (more : ℕ) × (more < m) × ((w + more) % m ≡ place)
rest_comes m place w some low =
    elim (behind place (w % m)) [
      | inl less ↦ (
        place + m - w % m,
        omega (arith, less, low, some),
        (let same : w + (place + m - w % m) ≡ (w / m + 1) * m + place = omega (arith, less, low, some) in
            rw same (mod-mul-add (w / m + 1) m place low)),
      )
      | inr more ↦ (
        place - w % m,
        omega (arith, more, low),
        (let same : w + (place - w % m) ≡ w / m * m + place = omega (arith, more, some) in
            rw same (mod-mul-add (w / m) m place low)),
      )
    ]

next_sum : (view attempts more : ℕ) → view + (attempts + more) ≡ view + attempts + more
next_sum view attempts more = omega arith

-- an item stands where it is
there : (list : List ℕ) (i x : ℕ) → i < length list → get_or list i x ≡ x → slice_get list i ≡ Some x
there [] i x low is = absurd (omega (arith, low))
there (y ∷ list) zero x low is = ap Some is
there (y ∷ list) (suc i) x low is = there list i x (omega arith) is

asks_at : (config : FetchConfig) (blocked : List ℕ) (view : ℕ) (entry : Entry) (more place peer : ℕ) → config.me < config.n → is_targeted entry.arrivals ≡ false
    → (view + entry.attempts + more) % length (unblocked blocked (others_of config)) ≡ place → slice_get (unblocked blocked (others_of config)) place ≡ Some peer
    → peer_of config blocked view (record entry { attempts = entry.attempts + more }) ≡ Some peer
unfolding peer_of
asks_at config blocked view entry more place peer low nobody rest is =
    elim (config.n == 1) as (λ b. (config.n == 1) ≡ b → (if b then None else if is_targeted entry.arrivals then cyclic (unblocked blocked (targets_of entry.arrivals)) (entry.attempts + more) else cyclic (unblocked blocked (others_of config)) (view + (entry.attempts + more))) ≡ Some peer) [
      | true ↦ λ single. absurd (alone config blocked place peer low single is)
      | false ↦ λ several. rw (nobody, next_sum view entry.attempts more, rest) is
    ] refl

pub goes_round : (config : FetchConfig) (blocked : List ℕ) (view : ℕ) (entry : Entry) → config.me < config.n → is_targeted entry.arrivals ≡ false → AsksAll config blocked view entry
goes_round config blocked view entry low nobody peer holds =
    let all = unblocked blocked (others_of config) in
    let more = rest_comes (length all) holds.0 (view + entry.attempts) (omega (arith, holds.1)) holds.1 in
    (more.0, more.1, asks_at config blocked view entry more.0 holds.0 peer low nobody more.2 (there all holds.0 peer holds.1 holds.2))

-- ---- blocked members

cyclic_passes : (blocked members : List ℕ) (place peer : ℕ) → cyclic (unblocked blocked members) place ≡ Some peer → holds_member blocked peer ≡ false
cyclic_passes blocked members place peer h = unblocked_passes blocked members (place % length (unblocked blocked members)) peer h

pub asks_none_blocked : (config : FetchConfig) (blocked : List ℕ) (view : ℕ) (entry : Entry) → AsksNoneBlocked config blocked view entry
unfolding peer_of
asks_none_blocked config blocked view entry peer h =
    elim (config.n == 1) as (λ b. (if b then None else if is_targeted entry.arrivals then cyclic (unblocked blocked (targets_of entry.arrivals)) entry.attempts else cyclic (unblocked blocked (others_of config)) (view + entry.attempts)) ≡ Some peer → holds_member blocked peer ≡ false) [
      | true ↦ λ none. cc
      | false ↦ elim (is_targeted entry.arrivals) as (λ b. (if b then cyclic (unblocked blocked (targets_of entry.arrivals)) entry.attempts else cyclic (unblocked blocked (others_of config)) (view + entry.attempts)) ≡ Some peer → holds_member blocked peer ≡ false) [
        | true ↦ cyclic_passes blocked (targets_of entry.arrivals) entry.attempts peer
        | false ↦ cyclic_passes blocked (others_of config) (view + entry.attempts) peer
      ]
    ] h

-- ---- delivering

nothing_in : (x : Out) → Contains [] x → ⊥
nothing_in x c = omega (arith, c.1)

only_one : (y x : Out) → Contains (y ∷ []) x → y ≡ x
only_one y x c = at c.0 c.1 c.2
  where
    at : (k : ℕ) → k < length (y ∷ []) → get_or (y ∷ []) k x ≡ x → y ≡ x
    at zero lt e = e
    at (suc k) lt e = absurd (omega (arith, lt))

module _ (fetcher : Machine) (sender now : ℕ) where
  delivered_at : (number id view asked : ℕ) (bytes answer : List ℕ) (asks : List Ask) (entry : Option Entry)
      → Contains (delivered sender number bytes asked fetcher entry).outs (out.Deliver id view answer asks) → (number ≡ id) × (asked ≡ view)
  unfolding delivered
  delivered_at number id view asked bytes answer asks None c = absurd (nothing_in _ c)
  delivered_at number id view asked bytes answer asks (Some entry) c = let e = only_one _ _ c in (cc, cc)

  answered_at : (number id view : ℕ) (bytes answer : List ℕ) (asks : List Ask) (asked : Option ℕ)
      → Contains (answered sender number bytes fetcher asked).outs (out.Deliver id view answer asks) → (number ≡ id) × (asked ≡ Some view)
  unfolding answered
  answered_at number id view bytes answer asks None c = absurd (nothing_in _ c)
  answered_at number id view bytes answer asks (Some asked) c =
      let e = delivered_at number id view asked bytes answer asks (entry_at fetcher.views asked) c in (e.0, ap Some e.1)

  body_opens : (number id view : ℕ) (answer : List ℕ) (asks : List Ask) (said : ResolverBody)
      → Contains (heard_body sender number now fetcher said).outs (out.Deliver id view answer asks) → asked_view id sender fetcher.views ≡ Some view
  unfolding heard_body requested
  body_opens number id view answer asks (body.Request wanted) c = let e = only_one _ _ c in cc
  body_opens number id view answer asks (body.Response bytes) c =
      let e = answered_at number id view bytes answer asks (asked_view number sender fetcher.views) c in
      ap (λ q. asked_view q sender fetcher.views) (sym e.0) ∙ e.1
  body_opens number id view answer asks body.Error c = absurd (nothing_in _ c)

  pub message_opens : (id view : ℕ) (answer : List ℕ) (asks : List Ask) (read : Result ResolverMessage DecodeError)
      → Contains (heard_message sender now fetcher read).outs (out.Deliver id view answer asks) → asked_view id sender fetcher.views ≡ Some view
  unfolding heard_message
  message_opens id view answer asks (Err fault) c = let e = only_one _ _ c in cc
  message_opens id view answer asks (Ok message) c = body_opens message.id id view answer asks message.body c

-- ---- serving

pub served_none : (id : ℕ) (es : List (ℕ × Serving)) → IsStrictlySortedBy nat_cmp (keys_of es)
    → lookup (is_at (nat_cmp id)) (remove_entry (is_at (nat_cmp id)) es) ≡ None
served_none id es rising =
    let laws = eq_by_cmp_equiv nat_cmp_total in
    lookup-remove_entry {eq = eq_by_cmp nat_cmp} laws (eq_by_cmp nat_cmp id) (λ x y h. laws.congr id x y h) id es (IsDistinct-from_sorted nat_cmp (keys_of es) rising)
    ∙ ap (λ b. cond b None (lookup (eq_by_cmp nat_cmp id) es)) (laws.refl id)

pub none_sent : (bytes : Option (List ℕ)) (serving : Option Serving) → serving ≡ None → served_as bytes serving ≡ []
unfolding served_as
none_sent bytes serving e = rw e refl
