-- The JSON form of a request to an application.
use Rattle.std.specs.Prelude.{ℕ, ◌&&◌, ◌^◌, nat_lt, List, codes, Bool, false, Option, Some, None, option_map, if◌then◌else◌}
use Rattle.std.specs.Option.{option_map_or}
use Rattle.std.specs.Str.{bytes_eq}
use Rattle.serde_json.specs.Data.{Data, null, string, object, no_members, member}
use Rattle.serde_json.specs.Find.{get, at, as_str}
use Rattle.simplex_values.specs.declared.round.Context.{Context}
use Rattle.simplex_values.specs.declared.round.Parent.{Parent}
use Rattle.simplex_values.specs.declared.round.Round.{Round}
use Rattle.model_rules.specs.declared.request.Asked.{Asked}
use Rattle.model_rules.specs.declared.request.Asked.TheVariants as asks
use Rattle.simplex_form.specs.Form.{◌>>=◌, has_members, has_items, is_null, number_of, number_at, text_at}
use Rattle.simplex_form.specs.Events.{digest_of}
use Rattle.simplex_audit_form.specs.Pieces.{round_of, number_data, hex_data, pair_data, round_data}

-- ---- what is read

-- the member "round": [epoch, view]
abbrev pub round_at : Data → Option Round
round_at d = get (codes "round") d >>= round_of

-- the member "payload": HEX32
abbrev pub payload_at : Data → Option (List ℕ)
payload_at d = text_at (codes "payload") d >>= digest_of

-- [view, HEX32]
abbrev pub parent_of : Data → Option Parent
parent_of d = if has_items 2 d then (do
  view ← at 0 d >>= number_of
  text ← at 1 d >>= as_str
  payload ← digest_of text
  Some (record { view = view; payload = payload })) else None

-- the member "leader": the number of a member, which is below 2 ^ 32
abbrev pub leader_at : Data → Option ℕ
leader_at d = number_at (codes "leader") d >>= (λ leader. if nat_lt leader (2 ^ 32) then Some leader else None)

-- what the application is told
abbrev pub context_of : Data → Option Context
context_of d = do
  round ← round_at d
  leader ← leader_at d
  parent ← get (codes "parent") d >>= parent_of
  Some (record { round = round; leader = leader; parent = parent })

-- the member of this name is null
abbrev pub is_null_at : List ℕ → Data → Bool
is_null_at name d = option_map_or is_null (get name d) false

-- a payload is wanted, so there is none yet
abbrev pub wanted_of : Data → Option Context
wanted_of d = if is_null_at (codes "payload") d then context_of d else None

abbrev pub verify_of : Data → Option Asked
verify_of d = do
  context ← context_of d
  payload ← payload_at d
  Some (asks.Verify context payload)

abbrev pub certify_of : Data → Option Asked
certify_of d = if is_null_at (codes "leader") d && is_null_at (codes "parent") d then (do
  round ← round_at d
  payload ← payload_at d
  Some (asks.Certify round payload)) else None

-- a request of this kind
abbrev pub kind_asked_of : List ℕ → Data → Option Asked
kind_asked_of kind d =
    if bytes_eq kind (codes "prepare") then option_map (λ context. asks.Prepare context) (wanted_of d) else
    if bytes_eq kind (codes "propose") then option_map (λ context. asks.Propose context) (wanted_of d) else
    if bytes_eq kind (codes "verify") then verify_of d else
    if bytes_eq kind (codes "certify") then certify_of d else
    None

-- {"kind": KIND, "round": [epoch, view], "leader": N, "parent": [view, HEX32], "payload": HEX32}
abbrev pub asked_of : Data → Option Asked
asked_of d = if has_members 5 d then text_at (codes "kind") d >>= (λ kind. kind_asked_of kind d) else None

-- ---- what is written

abbrev pub parent_data : Parent → Data
parent_data parent = pair_data (number_data parent.view) (hex_data parent.payload)

-- the members stand in the order of their names
abbrev pub request_data : List ℕ → Data → Data → Data → Round → Data
request_data kind leader parent payload round =
    object (member (codes "kind") (string kind)
    (member (codes "leader") leader
    (member (codes "parent") parent
    (member (codes "payload") payload
    (member (codes "round") (round_data round) no_members)))))

abbrev pub context_data : List ℕ → Context → Data → Data
context_data kind context payload =
    request_data kind (number_data context.leader) (parent_data context.parent) payload context.round

abbrev pub asked_data : Asked → Data
asked_data (asks.Prepare context) = context_data (codes "prepare") context null
asked_data (asks.Propose context) = context_data (codes "propose") context null
asked_data (asks.Verify context payload) = context_data (codes "verify") context (hex_data payload)
asked_data (asks.Certify round payload) = request_data (codes "certify") null null (hex_data payload) round
