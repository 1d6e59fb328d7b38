-- What a call of the fetcher wants says whom it blocked.
use Rattle.std.proofs.Common.{◌≡◌, ℕ, Bool, true, false, List, [], ◌∷◌, ◌++◌, Option, Some, None, Result, Ok, Err, refl, sym, ap, ◌∙◌, if◌then◌else◌, ◌==◌}
use Rattle.std.specs.List.{filter_map}
use Rattle.std.specs.Map.{lookup}
use Rattle.std.specs.Ordering.{nat_cmp}
use Rattle.std.specs.BTreeMap.{is_at}
use Rattle.std.proofs.lemmas.List.Elements.{filter_map-append}
use Rattle.simplex_values.specs.declared.ask.Outcome.{Outcome}
use Rattle.simplex_values.specs.declared.ask.Outcome.TheVariants as outcomes
use Rattle.simplex_wire.specs.declared.error.DecodeError.{DecodeError}
use Rattle.simplex_wire.specs.declared.resolver.ResolverBody.{ResolverBody}
use Rattle.simplex_wire.specs.declared.resolver.ResolverBody.TheVariants as bodies
use Rattle.simplex_wire.specs.declared.resolver.ResolverMessage.{ResolverMessage}
use Rattle.simplex_wire.specs.Format.{whole}
use Rattle.simplex_wire.specs.ResolverMessage.{resolver_message}
use Rattle.model_resolver.specs.declared.entry.Entry.{Entry}
use Rattle.model_resolver.specs.declared.entry.Serving.{Serving}
use Rattle.model_resolver.specs.declared.entry.State.{State}
use Rattle.model_resolver.specs.declared.entry.State.TheVariants.{Waiting, Asked, Judged}
use Rattle.model_resolver.specs.declared.out.Out.{Out}
use Rattle.model_resolver.specs.declared.out.Out.TheVariants as outs
use Rattle.model_resolver.specs.declared.retire.Retire.{Retire}
use Rattle.model_resolver.specs.Fetcher.{Machine, After, Fetching, quiet, keeping, forgetting, visited, peer_of, in_state, once_more, asking, attempted, attempted_at, attempting, retrying, fetched, fetched_beside, noting, adding, left_of, kept_or_left, without, is_empty, retired_at, retiring, retained, requested, delivered, answered, retried, refused, heard_body, heard_message, heard, blocking, blocked_by, is_done, delivered_of, asked_on, judged_as, judged_entry, judged_at, judged, served_as, served, expired_as, expired_at, expiring, expired}
use Rattle.model_resolver.specs.Asks.{holds_ask}
use Rattle.model_resolver.specs.Retirement.{reaches, retires}
use Rattle.model_resolver.specs.Views.{entry_at, views_where, asked_view, judged_view, is_due}
use Rattle.simplex_types.specs.declared.cause.BlockCause.{BlockCause}
use Rattle.simplex_types.specs.declared.cause.BlockCause.TheVariants.{Undecodable, InvalidResponse}
use Rattle.law_run.specs.Sayings.{Each}
use Rattle.law_run.proofs.Inserting.{inserted}

-- the member that is blocked by what is wanted
abbrev pub blocked_out : Out → Option ℕ
blocked_out (outs.Block member why) = Some member
blocked_out _ = None

abbrev pub blocked_outs : List Out → List ℕ
blocked_outs list = filter_map blocked_out list

-- the members that are wanted to be blocked were put among the blocked
abbrev pub IsGrown : Machine → After → Type 0
IsGrown m after = after.fetcher.blocked ≡ inserted m.blocked (blocked_outs after.outs)

-- none was
abbrev pub IsSame : Machine → After → Type 0
IsSame m after = (after.fetcher.blocked ≡ m.blocked) × (blocked_outs after.outs ≡ [])

pub same_grown : (m : Machine) (after : After) → IsSame m after → IsGrown m after
unfolding inserted
same_grown m after s = s.0 ∙ ap (inserted m.blocked) (sym s.1)

either_same : (b : Bool) (m : Machine) (x y : After) → IsSame m x → IsSame m y → IsSame m (if b then x else y)
either_same true m x y p q = p
either_same false m x y p q = q

visited_same : (change : ℕ → Machine → After) → ((view : ℕ) (m : Machine) → IsSame m (change view m)) → (views : List ℕ) (m : Machine) → IsSame m (visited change views m)
unfolding visited
visited_same change each [] m = (refl, refl)
visited_same change each (view ∷ views) m =
    let first = change view m in
    let one = each view m in
    let rest = visited_same change each views first.fetcher in
    (rest.0 ∙ one.0, filter_map-append blocked_out first.outs (visited change views first.fetcher).outs ∙ ap (λ xs. xs ++ blocked_outs (visited change views first.fetcher).outs) one.1 ∙ rest.1)

-- ---- requests

retrying_same : (now view : ℕ) (entry : Entry) (m : Machine) → (retrying now view entry m).blocked ≡ m.blocked
unfolding retrying
retrying_same now view entry m = refl

asking_same : (now view : ℕ) (entry : Entry) (m : Machine) (o : Option ℕ) → IsSame m (asking now view entry m o)
unfolding asking
asking_same now view entry m (Some peer) = (refl, refl)
asking_same now view entry m None = (at (m.config.n == 1), refl)
  where
    at : (b : Bool) → (if b then keeping view (in_state (Waiting None) entry) m else retrying now view (once_more entry) m).blocked ≡ m.blocked
    at true = refl
    at false = retrying_same now view (once_more entry) m

attempted_same : (now view : ℕ) (entry : Entry) (m : Machine) → IsSame m (attempted now view entry m)
unfolding attempted
attempted_same now view entry m = asking_same now view entry m (peer_of m.config m.blocked view entry)

attempted_at_same : (now view : ℕ) (m : Machine) (o : Option Entry) → IsSame m (attempted_at now view m o)
unfolding attempted_at
attempted_at_same now view m None = (refl, refl)
attempted_at_same now view m (Some entry) = attempted_same now view entry m

attempting_same : (now view : ℕ) (m : Machine) → IsSame m (attempting now view m)
unfolding attempting
attempting_same now view m = attempted_at_same now view m (entry_at m.views view)

fetched_beside_same : (list : List Fetching) (now : ℕ) (new : List ℕ) (m : Machine) → IsSame m (fetched_beside list now new m)
unfolding fetched_beside adding
fetched_beside_same [] now new m = visited_same (attempting now) (attempting_same now) new m
fetched_beside_same (fetching ∷ others) now new m = fetched_beside_same others now (noting fetching m new) (adding fetching m)

pub fetched_same : (list : List Fetching) (now : ℕ) (m : Machine) → IsSame m (fetched list now m)
fetched_same list now m = fetched_beside_same list now [] m

-- ---- retiring

left_same : (state : State) → blocked_outs (left_of state) ≡ []
left_same (Judged id peer asks) = refl
left_same (Asked id peer deadline) = refl
left_same (Waiting until) = refl

kept_same : (view : ℕ) (entry : Entry) (m : Machine) → IsSame m (kept_or_left view entry m)
unfolding kept_or_left
kept_same view entry m = either_same (is_empty entry) m (record { fetcher = forgetting view m; outs = left_of entry.state }) (quiet (keeping view entry m)) (refl, left_same entry.state) (refl, refl)

retired_same : (retire : Retire) (view : ℕ) (m : Machine) (o : Option Entry) → IsSame m (retired_at retire view m o)
unfolding retired_at
retired_same retire view m None = (refl, refl)
retired_same retire view m (Some entry) = kept_same view (without (retires retire) entry) m

retiring_same : (retire : Retire) (view : ℕ) (m : Machine) → IsSame m (retiring retire view m)
unfolding retiring
retiring_same retire view m = retired_same retire view m (entry_at m.views view)

pub retained_same : (retire : Retire) (m : Machine) → IsSame m (retained retire m)
unfolding retained
retained_same retire m = visited_same (retiring retire) (retiring_same retire) (views_where (λ view entry. reaches retire view) m.views) m

-- ---- verdicts

blocked_by_grown : (verdict : Option Outcome) (state : State) (m : Machine) → IsGrown m (blocked_by verdict state m)
unfolding inserted blocking
blocked_by_grown None state m = refl
blocked_by_grown (Some outcomes.Invalid) (Judged id peer asks) m = refl
blocked_by_grown (Some outcomes.Invalid) (Asked id peer deadline) m = refl
blocked_by_grown (Some outcomes.Invalid) (Waiting until) m = refl
blocked_by_grown (Some outcomes.Ignored) state m = refl
blocked_by_grown (Some outcomes.Unresolved) state m = refl
blocked_by_grown (Some (outcomes.Resolved resolution)) state m = refl

asked_on_same : (now view : ℕ) (others : Entry) (m : Machine) → IsSame m (asked_on now view others m)
unfolding asked_on
asked_on_same now view others m = either_same (is_empty others) m (quiet (forgetting view m)) (attempted now view others m) (refl, refl) (attempted_same now view others m)

either_grown : (b : Bool) (m : Machine) (x y : After) → IsGrown m x → IsGrown m y → IsGrown m (if b then x else y)
either_grown true m x y p q = p
either_grown false m x y p q = q

judged_as_grown : (verdict : Option Outcome) (now view : ℕ) (entry : Entry) (m : Machine) → IsGrown m (judged_as verdict now view entry m)
unfolding judged_as
judged_as_grown verdict now view entry m =
    let others = without (holds_ask (delivered_of entry.state)) entry in
    let later = retrying now view entry m in
    either_grown (is_done verdict) m (asked_on now view others m) (blocked_by verdict entry.state later) (same_grown m (asked_on now view others m) (asked_on_same now view others m))
    (blocked_by_grown verdict entry.state later ∙ ap (λ xs. inserted xs (blocked_outs (blocked_by verdict entry.state later).outs)) (retrying_same now view entry m))

nothing_grown : (m : Machine) → IsGrown m (quiet m)
unfolding inserted
nothing_grown m = refl

judged_entry_grown : (verdict : Option Outcome) (now view : ℕ) (m : Machine) (o : Option Entry) → IsGrown m (judged_entry verdict now view m o)
unfolding judged_entry
judged_entry_grown verdict now view m None = nothing_grown m
judged_entry_grown verdict now view m (Some entry) = judged_as_grown verdict now view entry m

judged_at_grown : (verdict : Option Outcome) (now : ℕ) (m : Machine) (o : Option ℕ) → IsGrown m (judged_at verdict now m o)
unfolding judged_at
judged_at_grown verdict now m None = nothing_grown m
judged_at_grown verdict now m (Some view) = judged_entry_grown verdict now view m (entry_at m.views view)

pub judged_grown : (id : ℕ) (verdict : Option Outcome) (now : ℕ) (m : Machine) → IsGrown m (judged id verdict now m)
unfolding judged
judged_grown id verdict now m = judged_at_grown verdict now m (judged_view id m.views)

-- ---- the clock

expired_as_same : (now view : ℕ) (entry : Entry) (m : Machine) (state : State) → IsSame m (expired_as now view entry m state)
unfolding expired_as
expired_as_same now view entry m (Asked id peer deadline) = (retrying_same now view entry m, refl)
expired_as_same now view entry m (Waiting until) = attempted_same now view entry m
expired_as_same now view entry m (Judged id peer asks) = (refl, refl)

expired_at_same : (now view : ℕ) (m : Machine) (o : Option Entry) → IsSame m (expired_at now view m o)
unfolding expired_at
expired_at_same now view m None = (refl, refl)
expired_at_same now view m (Some entry) = expired_as_same now view entry m entry.state

expiring_same : (now view : ℕ) (m : Machine) → IsSame m (expiring now view m)
unfolding expiring
expiring_same now view m = expired_at_same now view m (entry_at m.views view)

pub expired_same : (now : ℕ) (m : Machine) → IsSame m (expired now m)
unfolding expired
expired_same now m = (visited_same (expiring now) (expiring_same now) (views_where (λ view entry. is_due now entry) m.views) m)

-- ---- answers

served_as_same : (bytes : Option (List ℕ)) (o : Option Serving) → blocked_outs (served_as bytes o) ≡ []
unfolding served_as
served_as_same bytes None = refl
served_as_same bytes (Some serving) = refl

pub served_same : (id : ℕ) (bytes : Option (List ℕ)) (m : Machine) → IsSame m (served id bytes m)
unfolding served
served_same id bytes m = (refl, served_as_same bytes (lookup (is_at (nat_cmp id)) m.serving))

-- ---- what is heard

delivered_same : (sender id : ℕ) (bytes : List ℕ) (view : ℕ) (m : Machine) (o : Option Entry) → IsSame m (delivered sender id bytes view m o)
unfolding delivered
delivered_same sender id bytes view m None = (refl, refl)
delivered_same sender id bytes view m (Some entry) = (refl, refl)

answered_same : (sender id : ℕ) (bytes : List ℕ) (m : Machine) (o : Option ℕ) → IsSame m (answered sender id bytes m o)
unfolding answered
answered_same sender id bytes m None = (refl, refl)
answered_same sender id bytes m (Some view) = delivered_same sender id bytes view m (entry_at m.views view)

retried_same : (now view : ℕ) (m : Machine) (o : Option Entry) → (retried now view m o).blocked ≡ m.blocked
unfolding retried
retried_same now view m None = refl
retried_same now view m (Some entry) = retrying_same now view entry m

refused_same : (now : ℕ) (m : Machine) (o : Option ℕ) → (refused now m o).blocked ≡ m.blocked
unfolding refused
refused_same now m None = refl
refused_same now m (Some view) = retried_same now view m (entry_at m.views view)

body_same : (sender id now : ℕ) (m : Machine) (body : ResolverBody) → IsSame m (heard_body sender id now m body)
unfolding heard_body requested
body_same sender id now m (bodies.Request view) = (refl, refl)
body_same sender id now m (bodies.Response bytes) = answered_same sender id bytes m (asked_view id sender m.views)
body_same sender id now m bodies.Error = (refused_same now m (asked_view id sender m.views), refl)

message_grown : (sender now : ℕ) (m : Machine) (r : Result ResolverMessage DecodeError) → IsGrown m (heard_message sender now m r)
unfolding heard_message inserted blocking
message_grown sender now m (Err fault) = refl
message_grown sender now m (Ok message) = same_grown m (heard_body sender message.id now m message.body) (body_same sender message.id now m message.body)

pub heard_grown : (sender : ℕ) (bytes : List ℕ) (now : ℕ) (m : Machine) → IsGrown m (heard sender bytes now m)
unfolding heard
heard_grown sender bytes now m = message_grown sender now m (whole resolver_message bytes)

-- ---- for which cause

module _ (Fair : ℕ → BlockCause → Type 0) where
  abbrev pub FairOut : Out → Type 0
  FairOut (outs.Block who why) = Fair who why
  FairOut _ = Unit {0}

  pub none_fair : (list : List Out) → blocked_outs list ≡ [] → Each FairOut list
  none_fair [] e = tt
  none_fair (outs.Block who why ∷ list) e = cc
  none_fair (outs.Send to bytes ∷ list) e = (tt, none_fair list e)
  none_fair (outs.Deliver id view bytes asks ∷ list) e = (tt, none_fair list e)
  none_fair (outs.Produce id view ∷ list) e = (tt, none_fair list e)
  none_fair (outs.Left id ∷ list) e = (tt, none_fair list e)

  message_fair : (sender now : ℕ) (m : Machine) (r : Result ResolverMessage DecodeError) → ((fault : DecodeError) → r ≡ Err fault → Fair sender Undecodable) → Each FairOut (heard_message sender now m r).outs
  unfolding heard_message
  message_fair sender now m (Err fault) h = (h fault refl, tt)
  message_fair sender now m (Ok message) h = none_fair (heard_body sender message.id now m message.body).outs (body_same sender message.id now m message.body).1

  pub heard_fair : (sender : ℕ) (bytes : List ℕ) (now : ℕ) (m : Machine) → ((fault : DecodeError) → whole resolver_message bytes ≡ Err fault → Fair sender Undecodable)
      → Each FairOut (heard sender bytes now m).outs
  unfolding heard
  heard_fair sender bytes now m h = message_fair sender now m (whole resolver_message bytes) h

module _ (Fair : ℕ → BlockCause → Type 0) (late : (peer : ℕ) → Fair peer InvalidResponse) where
  blocked_by_fair : (verdict : Option Outcome) (state : State) (m : Machine) → Each (FairOut Fair) (blocked_by verdict state m).outs
  blocked_by_fair None state m = tt
  blocked_by_fair (Some outcomes.Invalid) (Judged id peer asks) m = (late peer, tt)
  blocked_by_fair (Some outcomes.Invalid) (Asked id peer deadline) m = tt
  blocked_by_fair (Some outcomes.Invalid) (Waiting until) m = tt
  blocked_by_fair (Some outcomes.Ignored) state m = tt
  blocked_by_fair (Some outcomes.Unresolved) state m = tt
  blocked_by_fair (Some (outcomes.Resolved resolution)) state m = tt

  either_fair : (b : Bool) (x y : After) → Each (FairOut Fair) x.outs → Each (FairOut Fair) y.outs → Each (FairOut Fair) (if b then x else y).outs
  either_fair true x y p q = p
  either_fair false x y p q = q

  judged_as_fair : (verdict : Option Outcome) (now view : ℕ) (entry : Entry) (m : Machine) → Each (FairOut Fair) (judged_as verdict now view entry m).outs
  unfolding judged_as
  judged_as_fair verdict now view entry m =
      let others = without (holds_ask (delivered_of entry.state)) entry in
      either_fair (is_done verdict) (asked_on now view others m) (blocked_by verdict entry.state (retrying now view entry m))
      (none_fair Fair (asked_on now view others m).outs (asked_on_same now view others m).1) (blocked_by_fair verdict entry.state (retrying now view entry m))

  judged_entry_fair : (verdict : Option Outcome) (now view : ℕ) (m : Machine) (o : Option Entry) → Each (FairOut Fair) (judged_entry verdict now view m o).outs
  unfolding judged_entry
  judged_entry_fair verdict now view m None = tt
  judged_entry_fair verdict now view m (Some entry) = judged_as_fair verdict now view entry m

  judged_at_fair : (verdict : Option Outcome) (now : ℕ) (m : Machine) (o : Option ℕ) → Each (FairOut Fair) (judged_at verdict now m o).outs
  unfolding judged_at
  judged_at_fair verdict now m None = tt
  judged_at_fair verdict now m (Some view) = judged_entry_fair verdict now view m (entry_at m.views view)

  pub judged_fair : (id : ℕ) (verdict : Option Outcome) (now : ℕ) (m : Machine) → Each (FairOut Fair) (judged id verdict now m).outs
  unfolding judged
  judged_fair id verdict now m = judged_at_fair verdict now m (judged_view id m.views)
