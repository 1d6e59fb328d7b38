use Rattle.std.proofs.Common.{sym, ap, ◌∙◌, length, ◌++◌, ◌∷◌, []}
use Rattle.simplex_transcript.specs.declared.entry.Entry.{Entry}
use Rattle.simplex_records.proofs.Keeping.{records-entered}
use Rattle.simplex_records.proofs.records.Records.add.Goals as goal

pub returns-clause-stands : goal.returns-clause-stands
returns-clause-stands c =
    λ from entry who packets asks calls before noted same of stand. records-entered c.args.self.now
    (record { packets = c.push_packets.new.events; desks = c.add_asked.new.desks; reported = c.add_reported.new.reported; votes = c.add_votes.new.votes })
    c.args.setup.now before noted entry same
    (c.in_ok-push_packets.ensures ∙ ap (λ ps. c.args.self.now.packets.items ++ ps ∷ []) (sym packets))
    (c.in_ok-add_asked.ensures.stands before noted (c.next-event.ensures c.args.setup.now before stand)
    (c.len-asked.ensures ∙ ap (λ a. length a) (sym asks) ∙ ap (λ (e : Entry). length e.asked) (sym same)) (rw c.seat_of.ensures of) stand.desks)
    (λ f. rw (who, calls) (c.in_ok-add_reported.ensures f))
    (c.in_ok-add_votes.ensures before noted (ap (λ (e : Entry). e.packets) same ∙ packets) from stand.votes)
    stand
