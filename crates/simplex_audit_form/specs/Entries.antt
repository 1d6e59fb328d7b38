-- The JSON form of an entry.
use Rattle.std.specs.Prelude.{ℕ, List, codes, Option, Some, None, option_map, if◌then◌else◌}
use Rattle.std.specs.Option.{option_map_or}
use Rattle.std.specs.Str.{bytes_eq}
use Rattle.serde_json.specs.Data.{Data, null, string, object, no_members, member}
use Rattle.serde_json.specs.Find.{get}
use Rattle.simplex_messages.specs.declared.step.Outcome.{Outcome}
use Rattle.simplex_messages.specs.declared.step.Outcome.TheVariants as outcomes
use Rattle.simplex_transcript.specs.declared.entry.Packet.{Packet}
use Rattle.simplex_transcript.specs.declared.node.Node.{Node}
use Rattle.simplex_form.specs.Form.{◌>>=◌, has_members, is_null, number_of, number_at, text_at, list_of}
use Rattle.simplex_form.specs.Events.{hex_of, node_of}
use Rattle.simplex_names.specs.Names.{channel_word, channel_of}
use Rattle.model_audit.specs.declared.record.AuditEntry.{AuditEntry}
use Rattle.model_audit.specs.declared.record.AuditTook.{AuditTook}
use Rattle.simplex_audit_form.specs.declared.entries.Head.{Head}
use Rattle.simplex_audit_form.specs.Pieces.{certificate_of, number_data, hex_data, list_data, node_data, certificate_data}
use Rattle.simplex_audit_form.specs.Took.{took_of, took_data}
use Rattle.simplex_audit_form.specs.Requests.{asked_of, asked_data}
use Rattle.simplex_audit_form.specs.Calls.{call_of, call_data}

-- ---- what is read

-- {"from": NODE, "channel": CHANNEL, "to": [NODE, ..], "bytes": HEX}
abbrev pub packet_of : Data → Option Packet
packet_of d = if has_members 4 d then (do
  from ← get (codes "from") d >>= node_of
  name ← text_at (codes "channel") d
  channel ← channel_of name
  to ← get (codes "to") d >>= list_of node_of
  bytes ← get (codes "bytes") d >>= hex_of
  Some (record { from = from; channel = channel; to = to; bytes = bytes })) else None

-- how a step ended, by the name of the outcome
abbrev pub outcome_of : List ℕ → Option Outcome
outcome_of name =
    if bytes_eq name (codes "done") then Some outcomes.Done else
    if bytes_eq name (codes "idle") then Some outcomes.Idle else
    if bytes_eq name (codes "journal") then Some outcomes.Journal else
    if bytes_eq name (codes "cut") then Some outcomes.Cut else
    if bytes_eq name (codes "refused") then Some outcomes.Refused else
    None

-- null, or NODE
abbrev pub who_of : Data → Option (Option Node)
who_of d = if is_null d then Some None else option_map (λ node. Some node) (node_of d)

-- the members "who", "took" and "outcome"
abbrev pub who_at : Data → Option (Option Node)
who_at d = get (codes "who") d >>= who_of

abbrev pub took_at : Data → Option AuditTook
took_at d = get (codes "took") d >>= took_of

abbrev pub outcome_at : Data → Option Outcome
outcome_at d = text_at (codes "outcome") d >>= outcome_of

-- what an entry has besides its lists
abbrev pub head_of : Data → Option Head
head_of d = do
  event ← number_at (codes "event") d
  who ← who_at d
  took ← took_at d
  outcome ← outcome_at d
  Some (record { event = event; who = who; took = took; outcome = outcome })

-- the list of things of this form at a name
abbrev pub list_at : {A : Type 0} → (Data → Option A) → List ℕ → Data → Option (List A)
list_at of name d = get name d >>= list_of of

abbrev pub with_lists : Data → Head → Option AuditEntry
with_lists d head = do
  added ← list_at certificate_of (codes "added") d
  asked ← list_at asked_of (codes "asked") d
  dropped ← list_at number_of (codes "dropped") d
  calls ← list_at call_of (codes "calls") d
  packets ← list_at packet_of (codes "packets") d
  Some (record {
    event = head.event;
    who = head.who;
    took = head.took;
    added = added;
    asked = asked;
    dropped = dropped;
    calls = calls;
    packets = packets;
    outcome = head.outcome;
  })

-- an object of nine members
abbrev pub entry_of : Data → Option AuditEntry
entry_of d = if has_members 9 d then head_of d >>= with_lists d else None

-- ---- what is written. Members stand in the order of their names

abbrev pub packet_data : Packet → Data
packet_data packet =
    object (member (codes "bytes") (hex_data packet.bytes)
    (member (codes "channel") (string (channel_word packet.channel))
    (member (codes "from") (node_data packet.from)
    (member (codes "to") (list_data node_data packet.to) no_members))))

abbrev pub outcome_name : Outcome → List ℕ
outcome_name outcomes.Done = codes "done"
outcome_name outcomes.Idle = codes "idle"
outcome_name outcomes.Journal = codes "journal"
outcome_name outcomes.Cut = codes "cut"
outcome_name outcomes.Refused = codes "refused"

abbrev pub who_data : Option Node → Data
who_data who = option_map_or node_data who null

abbrev pub entry_data : AuditEntry → Data
entry_data e =
    object (member (codes "added") (list_data certificate_data e.added)
    (member (codes "asked") (list_data asked_data e.asked)
    (member (codes "calls") (list_data call_data e.calls)
    (member (codes "dropped") (list_data number_data e.dropped)
    (member (codes "event") (number_data e.event)
    (member (codes "outcome") (string (outcome_name e.outcome))
    (member (codes "packets") (list_data packet_data e.packets)
    (member (codes "took") (took_data e.took)
    (member (codes "who") (who_data e.who) no_members)))))))))
