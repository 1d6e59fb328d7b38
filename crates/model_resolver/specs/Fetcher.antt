-- The fetcher: a small machine, and what each call does to it.
use Rattle.std.specs.Prelude.{◌≡◌, ℕ, ◌+◌, ◌%◌, ◌==◌, ◌&&◌, ◌<◌, ◌≤◌, ◌^◌, not, Bool, true, false, if◌then◌else◌, List, [], ◌∷◌, ◌++◌, length, filter, slice_get, Option, Some, None, Result, Ok, Err}
use Rattle.std.specs.List.{range_with_len}
use Rattle.std.specs.Option.{is_some}
use Rattle.std.specs.Ordering.{nat_cmp}
use Rattle.std.specs.Map.{lookup, remove_entry, keys_of}
use Rattle.std.specs.List.Sorted.{IsStrictlySortedBy}
use Rattle.std.specs.BTreeMap.{is_at, insert_entry}
use Rattle.std.specs.BTreeSet.{insert_key}
use Rattle.simplex_values.specs.declared.ask.Ask.{Ask}
use Rattle.simplex_values.specs.declared.ask.Outcome.{Outcome}
use Rattle.simplex_values.specs.declared.ask.Outcome.TheVariants as outcome
use Rattle.simplex_values.specs.declared.ask.Resolution.TheVariants as resolution
use Rattle.simplex_wire.specs.declared.error.DecodeError.{DecodeError}
use Rattle.simplex_wire.specs.declared.resolver.ResolverMessage.{ResolverMessage}
use Rattle.simplex_wire.specs.declared.resolver.ResolverBody.{ResolverBody}
use Rattle.simplex_wire.specs.declared.resolver.ResolverBody.TheVariants as body
use Rattle.simplex_wire.specs.Format.{whole}
use Rattle.simplex_wire.specs.ResolverMessage.{resolver_message}
use Rattle.simplex_types.specs.declared.cause.BlockCause.TheVariants.{Undecodable, InvalidResponse}
use Rattle.model_resolver.specs.declared.arrivals.Arrival.{Arrival}
use Rattle.model_resolver.specs.declared.config.FetchConfig.{FetchConfig}
use Rattle.model_resolver.specs.declared.config.Fetch.{Fetch}
use Rattle.model_resolver.specs.declared.entry.State.{State}
use Rattle.model_resolver.specs.declared.entry.State.TheVariants.{Waiting, Asked, Judged}
use Rattle.model_resolver.specs.declared.entry.Entry.{Entry}
use Rattle.model_resolver.specs.declared.entry.Serving.{Serving}
use Rattle.model_resolver.specs.declared.out.Out.{Out}
use Rattle.model_resolver.specs.declared.out.Out.TheVariants as out
use Rattle.model_resolver.specs.declared.retire.Retire.{Retire}
use Rattle.model_resolver.specs.Asks.{holds_ask, holds_member, asks_of, targets_of, is_targeted, with_arrival, without_asks}
use Rattle.model_resolver.specs.Retirement.{reaches, retires}
use Rattle.model_resolver.specs.Views.{entry_at, with_entry, without_entry, views_where, asked_view, judged_view, id_of, is_due}

-- What a fetcher is.
pub record Machine : Type 0 where
  pub config : FetchConfig
  -- the views that are asked for, in rising order
  pub views : List (ℕ × Entry)
  -- the number of the next request
  pub next_id : ℕ
  -- the requests of peers that are to be answered, by number
  pub serving : List (ℕ × Serving)
  -- the number of the next of these
  pub next_serve : ℕ
  -- the members that are blocked, in rising order
  pub blocked : List ℕ

-- A fetcher that nothing was asked of.
abbrev pub no_fetches : FetchConfig → Machine
no_fetches config = record { config = config; views = []; next_id = 0; serving = []; next_serve = 0; blocked = [] }

-- The fetcher after a call or a part of it, and what that wants, in its order.
pub record After : Type 0 where
  pub fetcher : Machine
  pub outs : List Out

-- nothing more is wanted
abbrev pub quiet : Machine → After
quiet fetcher = record { fetcher = fetcher; outs = [] }

-- the fetcher with this entry at the view
abbrev pub keeping : ℕ → Entry → Machine → Machine
keeping view entry fetcher = record fetcher { views = with_entry view entry fetcher.views }

-- the fetcher without the view
abbrev pub forgetting : ℕ → Machine → Machine
forgetting view fetcher = record fetcher { views = without_entry view fetcher.views }

-- a change of each of these views, one after the other
unfoldable pub visited : (ℕ → Machine → After) → List ℕ → Machine → After
visited change [] fetcher = quiet fetcher
visited change (view ∷ views) fetcher =
    let first = change view fetcher in
    let others = visited change views first.fetcher in
    record { fetcher = others.fetcher; outs = first.outs ++ others.outs }

-- ---- attempts

-- an item of the list, which goes round; an empty one has none
abbrev pub cyclic : List ℕ → ℕ → Option ℕ
cyclic list place = slice_get list (place % length list)

-- those that are not among the blocked
abbrev pub unblocked : (blocked members : List ℕ) → List ℕ
unblocked blocked members = filter (λ member. not (holds_member blocked member)) members

-- the members other than this one, in rising order
unfoldable pub others_of : FetchConfig → List ℕ
others_of config = filter (λ member. not (member == config.me)) (range_with_len 0 config.n)

-- whom the next attempt of the view asks: of the targets that are not blocked, or of the other members that are not
unfoldable pub peer_of : FetchConfig → List ℕ → ℕ → Entry → Option ℕ
peer_of config blocked view entry =
    if config.n == 1 then None
    else if is_targeted entry.arrivals then cyclic (unblocked blocked (targets_of entry.arrivals)) entry.attempts
    else cyclic (unblocked blocked (others_of config)) (view + entry.attempts)

-- the bytes of a request or an answer
unfoldable pub message_bytes : ℕ → ResolverBody → List ℕ
message_bytes id about = resolver_message.spelling (record { id = id; body = about })

-- the entry in this state
abbrev pub in_state : State → Entry → Entry
in_state state entry = record entry { state = state }

-- the view, with this entry, waits the retry delay
unfoldable pub retrying : ℕ → ℕ → Entry → Machine → Machine
retrying now view entry fetcher =
    keeping view (in_state (Waiting (Some (now + fetcher.config.fetch_retry_delay))) entry) fetcher

-- the entry after one more attempt
abbrev pub once_more : Entry → Entry
once_more entry = record entry { attempts = entry.attempts + 1 }

-- The view asks this peer. Where none may be asked the attempt is made all the same, and the view waits; a member alone
-- waits for good
unfoldable pub asking : ℕ → ℕ → Entry → Machine → Option ℕ → After
asking now view entry fetcher None =
    quiet (if fetcher.config.n == 1 then keeping view (in_state (Waiting None) entry) fetcher
    else retrying now view (once_more entry) fetcher)
asking now view entry fetcher (Some peer) =
    let asked = in_state (Asked fetcher.next_id peer (now + fetcher.config.fetch_timeout)) (once_more entry) in
    record {
      fetcher = record (keeping view asked fetcher) { next_id = fetcher.next_id + 1 };
      outs = out.Send peer (message_bytes fetcher.next_id (body.Request view)) ∷ [];
    }

-- the next attempt of the view, with this entry
unfoldable pub attempted : ℕ → ℕ → Entry → Machine → After
attempted now view entry fetcher = asking now view entry fetcher (peer_of fetcher.config fetcher.blocked view entry)

-- the next attempt of the view as it stands
unfoldable pub attempted_at : ℕ → ℕ → Machine → Option Entry → After
attempted_at now view fetcher None = quiet fetcher
attempted_at now view fetcher (Some entry) = attempted now view entry fetcher

unfoldable pub attempting : ℕ → ℕ → Machine → After
attempting now view fetcher = attempted_at now view fetcher (entry_at fetcher.views view)

-- ---- fetching

-- a view that is asked for: the view, and the ask with the target, if there is one
pub record Fetching : Type 0 where
  pub view : ℕ
  pub arrival : Arrival

-- asked of any member
abbrev pub of_all : Fetch → Fetching
of_all fetch = record { view = fetch.view; arrival = record { ask = fetch.ask; target = None } }

-- asked of this member
abbrev pub of_target : Fetch → ℕ → Fetching
of_target fetch target = record { view = fetch.view; arrival = record { ask = fetch.ask; target = Some target } }

-- the entry with one more ask. A view without asks begins with none, and no attempt made
abbrev pub entry_with : Arrival → Option Entry → Entry
entry_with arrival None = record { arrivals = with_arrival arrival []; attempts = 0; state = Waiting None }
entry_with arrival (Some entry) = record entry { arrivals = with_arrival arrival entry.arrivals }

-- the fetcher with one more ask
unfoldable pub adding : Fetching → Machine → Machine
adding fetching fetcher =
    keeping fetching.view (entry_with fetching.arrival (entry_at fetcher.views fetching.view)) fetcher

-- the new views, in rising order, with one more where it was not asked for before
unfoldable pub noting : Fetching → Machine → List ℕ → List ℕ
noting fetching fetcher new = if is_some (entry_at fetcher.views fetching.view)
    then new else insert_key nat_cmp new fetching.view

-- the asks are added, and then each new view is asked at once; these views are new already
unfoldable pub fetched_beside : List Fetching → ℕ → List ℕ → Machine → After
fetched_beside [] now new fetcher = visited (attempting now) new fetcher
fetched_beside (fetching ∷ others) now new fetcher =
    fetched_beside others now (noting fetching fetcher new) (adding fetching fetcher)

-- the asks are added, and then each new view is asked at once
abbrev pub fetched : List Fetching → ℕ → Machine → After
fetched fetchings now fetcher = fetched_beside fetchings now [] fetcher

-- ---- retiring

-- the entry without the asks that pass the test
abbrev pub without : (Ask → Bool) → Entry → Entry
without test entry = record entry { arrivals = without_asks test entry.arrivals }

-- whether no ask is left
abbrev pub is_empty : Entry → Bool
is_empty entry = length entry.arrivals == 0

-- a delivery of a view that is forgotten has a requester that left
abbrev pub left_of : State → List Out
left_of (Judged id peer delivered) = out.Left id ∷ []
left_of _ = []

-- the view with what is left of its entry; where no ask is left the view is forgotten
unfoldable pub kept_or_left : ℕ → Entry → Machine → After
kept_or_left view entry fetcher =
    if is_empty entry then record { fetcher = forgetting view fetcher; outs = left_of entry.state }
    else quiet (keeping view entry fetcher)

-- the view without its asks that are done with
unfoldable pub retired_at : Retire → ℕ → Machine → Option Entry → After
retired_at retire view fetcher None = quiet fetcher
retired_at retire view fetcher (Some entry) = kept_or_left view (without (retires retire) entry) fetcher

unfoldable pub retiring : Retire → ℕ → Machine → After
retiring retire view fetcher = retired_at retire view fetcher (entry_at fetcher.views view)

-- the asks that are done with are dropped, view by view
unfoldable pub retained : Retire → Machine → After
retained retire fetcher =
    visited (retiring retire) (views_where (λ view entry. reaches retire view) fetcher.views) fetcher

-- ---- blocking

-- the member is blocked from now on
unfoldable pub blocking : ℕ → Machine → Machine
blocking member fetcher = record fetcher { blocked = insert_key nat_cmp fetcher.blocked member }

-- ---- hearing

-- a peer's request is to be answered, under a number of the second count
unfoldable pub requested : ℕ → ℕ → ℕ → Machine → After
requested sender id view fetcher = record {
  fetcher = record fetcher {
    serving = insert_entry nat_cmp fetcher.serving fetcher.next_serve
        (record { sender = sender; request = id });
    next_serve = fetcher.next_serve + 1;
  };
  outs = out.Produce fetcher.next_serve view ∷ [];
}

-- the answer is delivered, for the asks of this moment
unfoldable pub delivered : ℕ → ℕ → List ℕ → ℕ → Machine → Option Entry → After
delivered sender id bytes view fetcher None = quiet fetcher
delivered sender id bytes view fetcher (Some entry) = record {
  fetcher = keeping view (in_state (Judged id sender (asks_of entry.arrivals)) entry) fetcher;
  outs = out.Deliver id view bytes (asks_of entry.arrivals) ∷ [];
}

-- an answer of the view that was asked; there may be none
unfoldable pub answered : ℕ → ℕ → List ℕ → Machine → Option ℕ → After
answered sender id bytes fetcher None = quiet fetcher
answered sender id bytes fetcher (Some view) = delivered sender id bytes view fetcher (entry_at fetcher.views view)

-- the view as it stands waits the retry delay
unfoldable pub retried : ℕ → ℕ → Machine → Option Entry → Machine
retried now view fetcher None = fetcher
retried now view fetcher (Some entry) = retrying now view entry fetcher

-- an error of the view that was asked; there may be none
unfoldable pub refused : ℕ → Machine → Option ℕ → Machine
refused now fetcher None = fetcher
refused now fetcher (Some view) = retried now view fetcher (entry_at fetcher.views view)

-- a message of the sender, under this number
unfoldable pub heard_body : ℕ → ℕ → ℕ → Machine → ResolverBody → After
heard_body sender id now fetcher (body.Request view) = requested sender id view fetcher
heard_body sender id now fetcher (body.Response bytes) =
    answered sender id bytes fetcher (asked_view id sender fetcher.views)
heard_body sender id now fetcher body.Error = quiet (refused now fetcher (asked_view id sender fetcher.views))

-- what was read of the sender's bytes. Bytes that are no message block the sender
unfoldable pub heard_message : ℕ → ℕ → Machine → Result ResolverMessage DecodeError → After
heard_message sender now fetcher (Err fault) =
    record { fetcher = blocking sender fetcher; outs = out.Block sender Undecodable ∷ [] }
heard_message sender now fetcher (Ok message) = heard_body sender message.id now fetcher message.body

-- bytes of the sender
unfoldable pub heard : ℕ → List ℕ → ℕ → Machine → After
heard sender bytes now fetcher = heard_message sender now fetcher (whole resolver_message bytes)

-- ---- verdicts

-- an answer that is no valid one blocks the peer
abbrev pub blocked_by : Option Outcome → State → Machine → After
blocked_by (Some outcome.Invalid) (Judged id peer delivered) fetcher =
    record { fetcher = blocking peer fetcher; outs = out.Block peer InvalidResponse ∷ [] }
blocked_by _ _ fetcher = quiet fetcher

-- the asks that the answer was delivered for
abbrev pub delivered_of : State → List Ask
delivered_of (Judged id peer delivered) = delivered
delivered_of _ = []

-- whether the delivered asks are done with: there is nothing to judge, nothing was left to settle, or all is settled
abbrev pub is_done : Option Outcome → Bool
is_done None = true
is_done (Some outcome.Ignored) = true
is_done (Some (outcome.Resolved resolution.Complete)) = true
is_done _ = false

-- the view with the asks that were not delivered, which are asked for at once; where there are none the view is
-- forgotten
unfoldable pub asked_on : ℕ → ℕ → Entry → Machine → After
asked_on now view others fetcher =
    if is_empty others then quiet (forgetting view fetcher) else attempted now view others fetcher

-- the view, with this entry, after the verdict: where the delivered asks are done with the others are asked for,
-- else it waits
unfoldable pub judged_as : Option Outcome → ℕ → ℕ → Entry → Machine → After
judged_as verdict now view entry fetcher =
    if is_done verdict then asked_on now view (without (holds_ask (delivered_of entry.state)) entry) fetcher
    else blocked_by verdict entry.state (retrying now view entry fetcher)

-- the view as it stands after the verdict
unfoldable pub judged_entry : Option Outcome → ℕ → ℕ → Machine → Option Entry → After
judged_entry verdict now view fetcher None = quiet fetcher
judged_entry verdict now view fetcher (Some entry) = judged_as verdict now view entry fetcher

-- the view that is judged; there may be none
unfoldable pub judged_at : Option Outcome → ℕ → Machine → Option ℕ → After
judged_at verdict now fetcher None = quiet fetcher
judged_at verdict now fetcher (Some view) = judged_entry verdict now view fetcher (entry_at fetcher.views view)

-- the verdict on what was delivered under this number
unfoldable pub judged : ℕ → Option Outcome → ℕ → Machine → After
judged id verdict now fetcher = judged_at verdict now fetcher (judged_view id fetcher.views)

-- ---- serving

-- a certificate's bytes, or that there is none
abbrev pub answer_body : Option (List ℕ) → ResolverBody
answer_body None = body.Error
answer_body (Some bytes) = body.Response bytes

-- the answer to a request, with the number that the request has
unfoldable pub served_as : Option (List ℕ) → Option Serving → List Out
served_as bytes None = []
served_as bytes (Some serving) = out.Send serving.sender (message_bytes serving.request (answer_body bytes)) ∷ []

-- a request is answered once
unfoldable pub served : ℕ → Option (List ℕ) → Machine → After
served id bytes fetcher = record {
  fetcher = record fetcher { serving = remove_entry (is_at (nat_cmp id)) fetcher.serving };
  outs = served_as bytes (lookup (is_at (nat_cmp id)) fetcher.serving);
}

-- ---- the clock

-- a view whose peer was silent waits, and one whose waiting is over makes the next attempt
unfoldable pub expired_as : ℕ → ℕ → Entry → Machine → State → After
expired_as now view entry fetcher (Asked id peer deadline) = quiet (retrying now view entry fetcher)
expired_as now view entry fetcher (Waiting until) = attempted now view entry fetcher
expired_as now view entry fetcher (Judged id peer delivered) = quiet fetcher

-- the view as it stands, whose deadline is reached
unfoldable pub expired_at : ℕ → ℕ → Machine → Option Entry → After
expired_at now view fetcher None = quiet fetcher
expired_at now view fetcher (Some entry) = expired_as now view entry fetcher entry.state

unfoldable pub expiring : ℕ → ℕ → Machine → After
expiring now view fetcher = expired_at now view fetcher (entry_at fetcher.views view)

-- each view whose deadline is reached is changed once
unfoldable pub expired : ℕ → Machine → After
expired now fetcher =
    visited (expiring now) (views_where (λ view entry. is_due now entry) fetcher.views) fetcher

-- ---- what always holds

-- the configuration of a member among the members, with times that leave room
pub record IsSoundConfig (config : FetchConfig) : Type 0 where
  pub members : 0 < config.n
  pub me : config.me < config.n
  pub timeout : config.fetch_timeout ≤ 2 ^ 62
  pub delay : config.fetch_retry_delay ≤ 2 ^ 62

-- the number of a request was drawn
abbrev pub IsDrawn : ℕ → Option ℕ → Type 0
IsDrawn next_id None = Unit {0}
IsDrawn next_id (Some id) = id < next_id

-- something is asked for
pub record IsSoundEntry (next_id : ℕ) (entry : Entry) : Type 0 where
  pub wanted : is_empty entry ≡ false
  pub drawn : IsDrawn next_id (id_of entry.state)

-- the same, where the view is asked for
abbrev pub IsSoundAt : ℕ → Option Entry → Type 0
IsSoundAt next_id None = Unit {0}
IsSoundAt next_id (Some entry) = IsSoundEntry next_id entry

-- the configuration leaves room, the views rise, and each number that a view has was drawn
pub record IsSound (config : FetchConfig) (next_id : ℕ) (views : List (ℕ × Entry)) : Type 0 where
  pub configured : IsSoundConfig config
  pub rising : IsStrictlySortedBy nat_cmp (keys_of views)
  pub drawn : (view : ℕ) → IsSoundAt next_id (entry_at views view)
