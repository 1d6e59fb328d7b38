use Rattle.std.proofs.Common.{sym}
use Rattle.simplex_records.proofs.Voting.{never, not-first, other-half}
use Rattle.simplex_case.proofs.Sending.{along-own, along-other}
use Rattle.simplex_case.proofs.taking.take_packet.Goals as goal
use Rattle.simplex_case.proofs.taking.take_packet.Goals.{else-packet-eq0-via-then-packet-eq0+else-is_honest, else-packet-eq0-via-else-packet-eq0}

pub returns-in_ok-add : goal.returns-in_ok-add
returns-in_ok-add c =
    λ before earlier along. along-own c.args.votes.now _ c.args.setup.now before earlier c.args.packet.now c.if-packet-eq0.true (sym c.if-is_honest.ensures)
    c.in_ok-add.ensures.scheme c.in_ok-add.ensures.count (rw c.from_ref.ensures.value at c.in_ok-add.ensures.votes) along

pub returns-else-packet-eq0 : goal.returns-else-packet-eq0
returns-else-packet-eq0 c =
    elim c.else-packet-eq0.branch [
      | else-packet-eq0-via-then-packet-eq0+else-is_honest w ↦
          λ before earlier along. along-other c.args.votes.now c.args.setup.now before earlier c.args.packet.now
          (λ member honest. not-first c.args.setup.now c.args.packet.now.from member honest (never _ _ (sym w.if-is_honest.ensures))) along
      | else-packet-eq0-via-else-packet-eq0 w ↦
          λ before earlier along. along-other c.args.votes.now c.args.setup.now before earlier c.args.packet.now
          (λ member honest. not-first c.args.setup.now c.args.packet.now.from member honest (other-half c.args.packet.now.from _ w.if-packet-eq0.false)) along
    ]
