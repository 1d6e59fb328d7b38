-- A relay of payloads: its inboxes, by their numbers.
use Rattle.std.specs.Prelude.{ℕ, ◌-◌, ◌==◌, List, [], ◌∷◌, ◌++◌, length, map, filter, take, replicate, slice_get, slice_set, Option, Some, None, option_and_then, if◌then◌else◌}
use Rattle.simplex_values.specs.declared.plan.Recipients.{Recipients}
use Rattle.simplex_values.specs.declared.plan.Recipients.TheVariants as recipients
use Rattle.simplex_mocks.specs.declared.relayed.Relayed.{Relayed}

-- a place of the relay: whose inbox it is, unless registrations were cleared since, and what it holds, the oldest first
pub record Place : Type 0 where
  pub member : Option ℕ
  pub holds : List Relayed

-- a new inbox of the member; its number is how many there were
unfoldable pub registered : List Place → ℕ → List Place
registered relay member = relay ++ record { member = Some member; holds = [] } ∷ []

-- empty, and nobody's
abbrev pub cleared : Place → Place
cleared place = record { member = None; holds = [] }

-- all inboxes are empty and nobody's, and keep their numbers
unfoldable pub deregistered : List Place → List Place
deregistered relay = map cleared relay

-- how often a member is named
abbrev pub times_named : Recipients → ℕ → ℕ
times_named recipients.All member = 1
times_named (recipients.Some members) member = length (filter (λ m. m == member) members)
times_named (recipients.One named) member = if named == member then 1 else 0

abbrev pub times_for : ℕ → Recipients → Option ℕ → ℕ
times_for sender to None = 0
times_for sender to (Some member) = if member == sender then 0 else times_named to member

-- last into the inbox of a recipient other than the sender, once for each time that it is named
abbrev pub with_relayed : ℕ → Recipients → Relayed → Place → Place
with_relayed sender to relayed place =
    record place { holds = place.holds ++ replicate (times_for sender to place.member) relayed }

-- without its newest, as many as the times that it is named
abbrev pub taken_back : ℕ → Recipients → Place → Place
taken_back sender to place =
    record place { holds = take (length place.holds - times_for sender to place.member) place.holds }

unfoldable pub broadcast : List Place → ℕ → Recipients → Relayed → List Place
broadcast relay sender to relayed = map (with_relayed sender to relayed) relay

-- the first that an inbox holds
abbrev pub first_of : List Relayed → Option Relayed
first_of [] = None
first_of (relayed ∷ others) = Some relayed

abbrev pub rest_of : List Relayed → List Relayed
rest_of [] = []
rest_of (relayed ∷ others) = others

unfoldable pub front : List Place → ℕ → Option Relayed
front relay number = option_and_then (λ place. first_of place.holds) (slice_get relay number)

abbrev pub if_place : List Place → ℕ → Option Place → List Place
if_place relay number None = relay
if_place relay number (Some place) = slice_set relay number (record place { holds = rest_of place.holds })

unfoldable pub after_take : List Place → ℕ → List Place
after_take relay number = if_place relay number (slice_get relay number)
