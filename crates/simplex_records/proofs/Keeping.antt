-- What is kept, of one entry more.
use Rattle.std.proofs.Common.{◌≡◌, ℕ, List, [], ◌∷◌, ◌++◌, Bool, true, false, arith, refl, sym, ap, ◌∙◌, subst, length, get_or, ◌<◌}
use Rattle.std.specs.Prelude.{◌||◌, ◌&&◌, Option, Some, filter_map}
use Rattle.std.specs.List.{list_any}
use Rattle.std.specs.Option.{option_and_then}
use Rattle.std.proofs.lemmas.List.{length_push}
use Rattle.std.proofs.lemmas.Option.{slice_get-get_or}
use Rattle.simplex_wire.specs.declared.certificate.Finalization.{Finalization}
use Rattle.simplex_messages.specs.declared.step.Outcome.{Outcome}
use Rattle.simplex_transcript.specs.declared.entry.Entry.{Entry}
use Rattle.simplex_transcript.specs.declared.entry.Packet.{Packet}
use Rattle.simplex_transcript.specs.declared.entry.Took.{Took}
use Rattle.simplex_transcript.specs.declared.node.Node.{Node}
use Rattle.simplex_transcript.specs.declared.node.Ref.{Ref}
use Rattle.simplex_transcript.specs.declared.setup.Setup.{Setup}
use Rattle.model_run.specs.Kinds.{is_honest}
use Rattle.model_run.specs.Life.{Noted}
use Rattle.model_run.specs.Requests.{is_start, packet_for, if_for}
use Rattle.model_run.specs.SentVotes.{vote_sent}
use Rattle.model_run.specs.Entries.{reports, is_of_honest}
use Rattle.simplex_records.specs.declared.records.Records.{Records}
use Rattle.simplex_records.specs.declared.requests.Requests.{Requests}
use Rattle.simplex_records.specs.Seats.{seat_of, node_at}
use Rattle.simplex_records.specs.Packets.{packet_in}
use Rattle.simplex_records.specs.Requests.{RequestsStand}
use Rattle.simplex_records.specs.Reported.{has_reported}
use Rattle.simplex_records.specs.Votes.{VotesStand}
use Rattle.simplex_records.specs.Events.{AreFrom, idle_entry, spoken_entry}
use Rattle.simplex_records.specs.Stands.{RecordsStand, DesksStand, seats_in}
use Rattle.simplex_records.proofs.Seating.{seated}
use Rattle.simplex_records.proofs.KeptPackets.{packets-push}
use Rattle.simplex_records.proofs.Asked.{desks-pass, desk-read}
use Rattle.simplex_records.proofs.Told.{told-entry}
use Rattle.simplex_records.proofs.Voting.{votes-pass, faulty-votes}

-- the desk at a seat that is read from all desks
pub desk-at : (desks : List Requests) (before : List Noted) (at : ℕ) (desk : Requests) → DesksStand desks before → at < length desks → desk ≡ get_or desks at desk
    → RequestsStand desk before (node_at at)
desk-at desks before at desk stand lt is = desk-read desks before at desk stand (slice_get-get_or desks at desk lt ∙ ap (λ d. Some d) (sym is))

-- the desk of a node that is read from the records
pub desk-of : (records : Records) (setup : Setup) (before : List Noted) (node : Node) (desk : Requests) → RecordsStand records setup before
    → node.half < 2 → seat_of node < seats_in records → desk ≡ get_or records.desks.items (seat_of node) desk → RequestsStand desk before node
unfolding seats_in
desk-of records setup before node desk stand half lt is =
    subst (λ n. RequestsStand desk before n) (seated node half) (desk-at records.desks.items before (seat_of node) desk stand.desks lt is)

-- an entry is taken in
pub records-entered : (old new : Records) (setup : Setup) (before : List Noted) (noted : Noted) (entry : Entry) → noted.entry ≡ entry
    → new.packets.items ≡ old.packets.items ++ entry.packets ∷ []
    → DesksStand new.desks.items (noted ∷ before)
    → ((f : Finalization) → has_reported new.reported f ≡ (is_of_honest setup entry.who && list_any (reports f) entry.calls || has_reported old.reported f))
    → VotesStand new.votes setup (noted ∷ before)
    → RecordsStand old setup before → RecordsStand new setup (noted ∷ before)
records-entered old new setup before noted entry same pushed desks tells votes stand =
    record {
      count = ap (λ ps. length ps) pushed ∙ length_push old.packets.items entry.packets ∙ omega (arith, stand.count);
      packets = λ at. ap (λ ps. packet_in ps at) (pushed ∙ ap (λ (e : Entry). old.packets.items ++ e.packets ∷ []) (sym same))
          ∙ packets-push old.packets.items before noted stand.count stand.packets at;
      desks = desks;
      reported = told-entry setup old.reported new.reported before noted stand.reported (rw same tells);
      votes = votes;
    }

nothing : (b c : Bool) → b ≡ (c && false || b)
nothing true true = refl
nothing true false = refl
nothing false true = refl
nothing false false = refl

-- an entry of no engine is taken in: it asks and reports nothing
pub records-quiet : (old new : Records) (setup : Setup) (before : List Noted) (noted : Noted) (entry : Entry) → noted.entry ≡ entry
    → entry.asked ≡ [] → entry.calls ≡ []
    → new.packets.items ≡ old.packets.items ++ entry.packets ∷ [] → new.desks.items ≡ old.desks.items → new.reported ≡ old.reported → new.votes ≡ old.votes
    → is_start noted.event ≡ false
    → ((member : ℕ) → is_honest setup member ≡ true → filter_map (vote_sent member) entry.packets ≡ [])
    → RecordsStand old setup before → RecordsStand new setup (noted ∷ before)
records-quiet old new setup before noted entry same asked calls pushed desks reported votes start none stand =
    records-entered old new setup before noted entry same pushed
    (rw desks (desks-pass old.desks.items before noted start (ap (λ (e : Entry). length e.asked) same ∙ ap (λ requests. length requests) asked) stand.desks))
    (λ f. ap (λ r. has_reported r f) reported ∙ nothing (has_reported old.reported f) (is_of_honest setup entry.who)
    ∙ ap (λ made. is_of_honest setup entry.who && list_any (reports f) made || has_reported old.reported f) (sym calls))
    (rw votes (votes-pass old.votes setup before noted (λ member honest. ap (λ (e : Entry). filter_map (vote_sent member) e.packets) same ∙ none member honest) stand.votes))
    stand

-- an entry in which nothing happens
pub records-passed : (old new : Records) (setup : Setup) (before : List Noted) (noted : Noted) (event : ℕ) (who : Option Node) (outcome : Outcome)
    → new.packets.items ≡ old.packets.items ++ [] ∷ [] → new.desks.items ≡ old.desks.items → new.reported ≡ old.reported → new.votes ≡ old.votes
    → noted.entry ≡ idle_entry event who outcome → is_start noted.event ≡ false → RecordsStand old setup before → RecordsStand new setup (noted ∷ before)
records-passed old new setup before noted event who outcome pushed desks reported votes same start stand =
    records-quiet old new setup before noted (idle_entry event who outcome) same refl refl pushed desks reported votes start (λ member honest. refl) stand

-- and one of a faulty member's packets
pub records-spoken : (old new : Records) (setup : Setup) (before : List Noted) (noted : Noted) (event : ℕ) (node : Node) (took : Option Took) (packets : List Packet)
    → new.packets.items ≡ old.packets.items ++ packets ∷ [] → new.desks.items ≡ old.desks.items → new.reported ≡ old.reported → new.votes ≡ old.votes
    → noted.entry ≡ spoken_entry event node took packets → is_start noted.event ≡ false → is_honest setup node.member ≡ false → AreFrom node packets
    → RecordsStand old setup before → RecordsStand new setup (noted ∷ before)
records-spoken old new setup before noted event node took packets pushed desks reported votes same start faulty from stand =
    records-quiet old new setup before noted (spoken_entry event node took packets) same refl refl pushed desks reported votes start
    (faulty-votes setup node packets from faulty) stand

-- what is looked up
pub records-packet : (records : Records) (setup : Setup) (before : List Noted) (node : Node) (at : Ref) → RecordsStand records setup before
    → option_and_then (if_for node) (packet_in records.packets.items at) ≡ packet_for before node at
unfolding packet_for
records-packet records setup before node at stand = ap (λ p. option_and_then (if_for node) p) (stand.packets at)
