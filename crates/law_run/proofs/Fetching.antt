-- What a fetcher wants: requests, errors and what it was given to answer with; and it delivers what was in a response.
use Rattle.std.proofs.Common.{◌≡◌, ℕ, Bool, true, false, List, [], ◌∷◌, Option, Some, None, Result, Ok, Err, refl, if◌then◌else◌}
use Rattle.std.specs.Map.{lookup}
use Rattle.std.specs.Ordering.{nat_cmp}
use Rattle.std.specs.BTreeMap.{is_at}
use Rattle.simplex_values.specs.declared.ask.Outcome.{Outcome}
use Rattle.simplex_values.specs.declared.ask.Outcome.TheVariants as outcomes
use Rattle.simplex_wire.specs.declared.certificate.Certificate.{Certificate}
use Rattle.simplex_wire.specs.declared.error.DecodeError.{DecodeError}
use Rattle.simplex_wire.specs.declared.resolver.ResolverBody.{ResolverBody}
use Rattle.simplex_wire.specs.declared.resolver.ResolverBody.TheVariants as bodies
use Rattle.simplex_wire.specs.declared.resolver.ResolverMessage.{ResolverMessage}
use Rattle.simplex_wire.specs.Format.{whole}
use Rattle.simplex_wire.specs.Message as format
use Rattle.simplex_wire.specs.ResolverMessage.{resolver_message}
use Rattle.model_resolver.specs.declared.entry.Entry.{Entry}
use Rattle.model_resolver.specs.declared.entry.Serving.{Serving}
use Rattle.model_resolver.specs.declared.entry.State.{State}
use Rattle.model_resolver.specs.declared.entry.State.TheVariants.{Waiting, Asked, Judged}
use Rattle.model_resolver.specs.declared.out.Out.{Out}
use Rattle.model_resolver.specs.declared.out.Out.TheVariants as outs
use Rattle.model_resolver.specs.declared.retire.Retire.{Retire}
use Rattle.model_resolver.specs.Fetcher.{Machine, After, Fetching, message_bytes, visited, peer_of, asking, attempted, attempted_at, attempting, fetched, fetched_beside, noting, adding, left_of, kept_or_left, without, is_empty, retired_at, retiring, retained, requested, delivered, answered, heard_body, heard_message, heard, blocked_by, retrying, is_done, delivered_of, asked_on, judged_as, judged_entry, judged_at, judged, served_as, served, expired_as, expired_at, expiring, expired}
use Rattle.model_resolver.specs.Asks.{holds_ask}
use Rattle.model_resolver.specs.Retirement.{reaches, retires}
use Rattle.model_resolver.specs.Views.{entry_at, views_where, asked_view, judged_view, is_due}
use Rattle.law_run.specs.Sayings.{Each, IsAnswer}
use Rattle.law_run.proofs.Speaking.{Each-append}

-- the bytes of a certificate that is such
abbrev pub IsSpelling : (Certificate → Type 0) → List ℕ → Type 0
IsSpelling Good bytes = (c : Certificate) × (bytes ≡ format.certificate.spelling c) × Good c

module _ (Good : Certificate → Type 0) (Brings : List ℕ → Type 0) where
  -- what is sent is a message whose certificate is such, and what is delivered brings such ones
  abbrev pub InOut : Out → Type 0
  InOut (outs.Send to bytes) = IsAnswer Good bytes
  InOut (outs.Deliver id view bytes asks) = Brings bytes
  InOut _ = Unit {0}

  abbrev AllOut : After → Type 0
  AllOut after = Each InOut after.outs

  either_after : (b : Bool) (x y : After) → AllOut x → AllOut y → AllOut (if b then x else y)
  either_after true x y p q = p
  either_after false x y p q = q

  visited_out : (change : ℕ → Machine → After) → ((view : ℕ) (m : Machine) → AllOut (change view m)) → (views : List ℕ) (m : Machine) → AllOut (visited change views m)
  unfolding visited
  visited_out change each [] m = tt
  visited_out change each (view ∷ views) m =
      let first = change view m in
      Each-append InOut first.outs (visited change views first.fetcher).outs (each view m) (visited_out change each views first.fetcher)

  -- ---- requests

  asking_out : (now view : ℕ) (entry : Entry) (m : Machine) (o : Option ℕ) → AllOut (asking now view entry m o)
  unfolding asking message_bytes
  asking_out now view entry m None = tt
  asking_out now view entry m (Some peer) = ((record { id = m.next_id; body = bodies.Request view }, refl, tt), tt)

  attempted_out : (now view : ℕ) (entry : Entry) (m : Machine) → AllOut (attempted now view entry m)
  unfolding attempted
  attempted_out now view entry m = asking_out now view entry m (peer_of m.config m.blocked view entry)

  attempted_at_out : (now view : ℕ) (m : Machine) (o : Option Entry) → AllOut (attempted_at now view m o)
  unfolding attempted_at
  attempted_at_out now view m None = tt
  attempted_at_out now view m (Some entry) = attempted_out now view entry m

  attempting_out : (now view : ℕ) (m : Machine) → AllOut (attempting now view m)
  unfolding attempting
  attempting_out now view m = attempted_at_out now view m (entry_at m.views view)

  fetched_out : (list : List Fetching) (now : ℕ) (new : List ℕ) (m : Machine) → AllOut (fetched_beside list now new m)
  unfolding fetched_beside
  fetched_out [] now new m = visited_out (attempting now) (attempting_out now) new m
  fetched_out (fetching ∷ others) now new m = fetched_out others now (noting fetching m new) (adding fetching m)

  pub asks_out : (list : List Fetching) (now : ℕ) (m : Machine) → AllOut (fetched list now m)
  asks_out list now m = fetched_out list now [] m

  -- ---- retiring

  left_out : (state : State) → Each InOut (left_of state)
  left_out (Judged id peer asks) = (tt, tt)
  left_out (Asked id peer deadline) = tt
  left_out (Waiting until) = tt

  kept_out : (view : ℕ) (entry : Entry) (m : Machine) → AllOut (kept_or_left view entry m)
  unfolding kept_or_left
  kept_out view entry m = either_after (is_empty entry) _ _ (left_out entry.state) tt

  retired_out : (retire : Retire) (view : ℕ) (m : Machine) (o : Option Entry) → AllOut (retired_at retire view m o)
  unfolding retired_at
  retired_out retire view m None = tt
  retired_out retire view m (Some entry) = kept_out view (without (retires retire) entry) m

  retiring_out : (retire : Retire) (view : ℕ) (m : Machine) → AllOut (retiring retire view m)
  unfolding retiring
  retiring_out retire view m = retired_out retire view m (entry_at m.views view)

  pub retained_out : (retire : Retire) (m : Machine) → AllOut (retained retire m)
  unfolding retained
  retained_out retire m = visited_out (retiring retire) (retiring_out retire) (views_where (λ view entry. reaches retire view) m.views) m

  -- ---- verdicts

  blocked_out : (verdict : Option Outcome) (state : State) (m : Machine) → AllOut (blocked_by verdict state m)
  blocked_out None state m = tt
  blocked_out (Some outcomes.Invalid) (Judged id peer asks) m = (tt, tt)
  blocked_out (Some outcomes.Invalid) (Asked id peer deadline) m = tt
  blocked_out (Some outcomes.Invalid) (Waiting until) m = tt
  blocked_out (Some outcomes.Ignored) state m = tt
  blocked_out (Some outcomes.Unresolved) state m = tt
  blocked_out (Some (outcomes.Resolved resolution)) state m = tt

  asked_on_out : (now view : ℕ) (others : Entry) (m : Machine) → AllOut (asked_on now view others m)
  unfolding asked_on
  asked_on_out now view others m = either_after (is_empty others) _ _ tt (attempted_out now view others m)

  judged_as_out : (verdict : Option Outcome) (now view : ℕ) (entry : Entry) (m : Machine) → AllOut (judged_as verdict now view entry m)
  unfolding judged_as
  judged_as_out verdict now view entry m =
      either_after (is_done verdict) _ _ (asked_on_out now view (without (holds_ask (delivered_of entry.state)) entry) m) (blocked_out verdict entry.state (retrying now view entry m))

  judged_entry_out : (verdict : Option Outcome) (now view : ℕ) (m : Machine) (o : Option Entry) → AllOut (judged_entry verdict now view m o)
  unfolding judged_entry
  judged_entry_out verdict now view m None = tt
  judged_entry_out verdict now view m (Some entry) = judged_as_out verdict now view entry m

  judged_at_out : (verdict : Option Outcome) (now : ℕ) (m : Machine) (o : Option ℕ) → AllOut (judged_at verdict now m o)
  unfolding judged_at
  judged_at_out verdict now m None = tt
  judged_at_out verdict now m (Some view) = judged_entry_out verdict now view m (entry_at m.views view)

  pub judged_out : (id : ℕ) (verdict : Option Outcome) (now : ℕ) (m : Machine) → AllOut (judged id verdict now m)
  unfolding judged
  judged_out id verdict now m = judged_at_out verdict now m (judged_view id m.views)

  -- ---- the clock

  expired_as_out : (now view : ℕ) (entry : Entry) (m : Machine) (state : State) → AllOut (expired_as now view entry m state)
  unfolding expired_as
  expired_as_out now view entry m (Asked id peer deadline) = tt
  expired_as_out now view entry m (Waiting until) = attempted_out now view entry m
  expired_as_out now view entry m (Judged id peer asks) = tt

  expired_at_out : (now view : ℕ) (m : Machine) (o : Option Entry) → AllOut (expired_at now view m o)
  unfolding expired_at
  expired_at_out now view m None = tt
  expired_at_out now view m (Some entry) = expired_as_out now view entry m entry.state

  expiring_out : (now view : ℕ) (m : Machine) → AllOut (expiring now view m)
  unfolding expiring
  expiring_out now view m = expired_at_out now view m (entry_at m.views view)

  pub expired_out : (now : ℕ) (m : Machine) → AllOut (expired now m)
  unfolding expired
  expired_out now m = visited_out (expiring now) (expiring_out now) (views_where (λ view entry. is_due now entry) m.views) m

  -- ---- answers

  served_as_out : (bytes : Option (List ℕ)) (o : Option Serving) → ((b : List ℕ) → bytes ≡ Some b → IsSpelling Good b) → Each InOut (served_as bytes o)
  unfolding served_as message_bytes
  served_as_out bytes None g = tt
  served_as_out None (Some serving) g = ((record { id = serving.request; body = bodies.Error }, refl, tt), tt)
  served_as_out (Some b) (Some serving) g = ((record { id = serving.request; body = bodies.Response b }, refl, g b refl), tt)

  pub served_out : (id : ℕ) (bytes : Option (List ℕ)) (m : Machine) → ((b : List ℕ) → bytes ≡ Some b → IsSpelling Good b) → AllOut (served id bytes m)
  unfolding served
  served_out id bytes m g = served_as_out bytes (lookup (is_at (nat_cmp id)) m.serving) g

  -- ---- what is heard

  -- what a message brings
  abbrev pub BodyBrings : ResolverBody → Type 0
  BodyBrings (bodies.Response bytes) = Brings bytes
  BodyBrings _ = Unit {0}

  delivered_out : (sender id : ℕ) (bytes : List ℕ) (view : ℕ) (m : Machine) (o : Option Entry) → Brings bytes → AllOut (delivered sender id bytes view m o)
  unfolding delivered
  delivered_out sender id bytes view m None b = tt
  delivered_out sender id bytes view m (Some entry) b = (b, tt)

  answered_out : (sender id : ℕ) (bytes : List ℕ) (m : Machine) (o : Option ℕ) → Brings bytes → AllOut (answered sender id bytes m o)
  unfolding answered
  answered_out sender id bytes m None b = tt
  answered_out sender id bytes m (Some view) b = delivered_out sender id bytes view m (entry_at m.views view) b

  body_out : (sender id now : ℕ) (m : Machine) (body : ResolverBody) → BodyBrings body → AllOut (heard_body sender id now m body)
  unfolding heard_body requested
  body_out sender id now m (bodies.Request view) b = (tt, tt)
  body_out sender id now m (bodies.Response bytes) b = answered_out sender id bytes m (asked_view id sender m.views) b
  body_out sender id now m bodies.Error b = tt

  pub heard_out : (sender : ℕ) (bytes : List ℕ) (now : ℕ) (m : Machine) → ((message : ResolverMessage) → whole resolver_message bytes ≡ Ok message → BodyBrings message.body) → AllOut (heard sender bytes now m)
  unfolding heard heard_message
  heard_out sender bytes now m brings = at (whole resolver_message bytes) refl
    where
      at : (r : Result ResolverMessage DecodeError) → whole resolver_message bytes ≡ r → AllOut (heard_message sender now m r)
      at (Err fault) e = (tt, tt)
      at (Ok message) e = body_out sender message.id now m message.body (brings message e)
