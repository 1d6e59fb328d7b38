-- What came of an event, item by item.
use Rattle.std.specs.Prelude.{ℕ, List, [], ◌++◌, codes, decimal, flat_map}
use Rattle.std.specs.List.{enumerate_from}
use Rattle.simplex_types.specs.Evidence.{activity_round}
use Rattle.model_rules.specs.declared.request.Asked.{Asked}
use Rattle.model_rules.specs.declared.request.Asked.TheVariants as asks
use Rattle.simplex_messages.specs.declared.call.Call.{Call}
use Rattle.simplex_messages.specs.declared.call.Call.TheVariants as calls
use Rattle.simplex_messages.specs.declared.handed.Handed.{Handed}
use Rattle.simplex_messages.specs.declared.handed.Handed.TheVariants as handed
use Rattle.simplex_messages.specs.declared.step.Outcome.{Outcome}
use Rattle.simplex_messages.specs.declared.step.Outcome.TheVariants as outcomes
use Rattle.simplex_transcript.specs.declared.node.Node.{Node}
use Rattle.simplex_transcript.specs.declared.entry.Entry.{Entry}
use Rattle.simplex_transcript.specs.declared.entry.Packet.{Packet}
use Rattle.simplex_names.specs.Names.{channel_word}
use Rattle.simplex_trace.specs.Deeds.{node_text, payload_text, ref_text, spaced}
use Rattle.simplex_trace.specs.Words.{cause_word, record_word, report_word}

-- a call
abbrev pub call_text : Call → List ℕ
call_text (calls.Append section record_) = spaced (codes "append") (spaced (record_word record_) (decimal section))
call_text (calls.Sync section) = spaced (codes "sync") (decimal section)
call_text (calls.Prune least) = spaced (codes "prune below") (decimal least)
call_text (calls.Send channel recipients bytes) = spaced (codes "send") (channel_word channel)
call_text (calls.Report activity) =
    spaced (codes "report") (spaced (report_word activity) (decimal (activity_round activity).view))
call_text (calls.Relay payload plan) = spaced (codes "relay") (payload_text payload)
call_text (calls.Block member cause) =
    spaced (codes "block") (spaced (decimal member) (spaced (codes "for") (cause_word cause)))

-- what is asked, and of which view
abbrev pub ask_text : Asked → List ℕ
ask_text (asks.Prepare context) = spaced (codes "prepare") (decimal context.round.view)
ask_text (asks.Propose context) = spaced (codes "propose") (decimal context.round.view)
ask_text (asks.Verify context payload) = spaced (codes "verify") (decimal context.round.view)
ask_text (asks.Certify round payload) = spaced (codes "certify") (decimal round.view)

-- the mailbox in which a message waits
abbrev pub mailbox_word : Handed → List ℕ
mailbox_word (handed.Batcher message) = codes "batcher"
mailbox_word (handed.Voter message) = codes "voter"
mailbox_word (handed.Resolver message) = codes "resolver"
mailbox_word (handed.Handler message) = codes "handler"

abbrev pub mail_text : Handed → List ℕ
mail_text message = spaced (codes "mail for") (mailbox_word message)

-- the nodes, each behind a space
abbrev pub nodes_text : List Node → List ℕ
nodes_text nodes = flat_map (λ node. codes " " ++ node_text node) nodes

-- a packet by its channel and its name, and for whom it is
abbrev pub packet_text : ℕ → ℕ × Packet → List ℕ
packet_text event placed =
    spaced (channel_word placed.1.channel)
    (spaced (ref_text (record { event = event; place = placed.0 })) (codes "to" ++ nodes_text placed.1.to))

-- a request by its name
abbrev pub request_text : ℕ → ℕ × Asked → List ℕ
request_text event placed =
    spaced (codes "ask") (spaced (ask_text placed.1)
    (spaced (codes "as") (ref_text (record { event = event; place = placed.0 }))))

-- an item behind what stands before it
abbrev pub item : List ℕ → List ℕ
item text = codes ", " ++ text

-- one for each of these
abbrev pub items_by : {A : Type 0} → (A → List ℕ) → List A → List ℕ
items_by text list = flat_map (λ it. item (text it)) list

-- how the step ended, where it did not end as it should
abbrev pub outcome_items : Outcome → List ℕ
outcome_items outcomes.Done = []
outcome_items outcomes.Idle = item (codes "nothing to take")
outcome_items outcomes.Refused = item (codes "refused: its sender is blocked")
outcome_items outcomes.Journal = item (codes "stopped: the journal failed")
outcome_items outcomes.Cut = item (codes "stopped: cut off")

-- the calls, the messages that wait now, the requests and the packets
abbrev pub items_of : Entry → List ℕ
items_of entry =
    (((items_by call_text entry.calls ++ items_by mail_text entry.handed)
    ++ items_by (request_text entry.event) (enumerate_from 0 entry.asked))
    ++ items_by (packet_text entry.event) (enumerate_from 0 entry.packets))
    ++ outcome_items entry.outcome
