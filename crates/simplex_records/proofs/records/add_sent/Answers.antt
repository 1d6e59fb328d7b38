use Rattle.std.proofs.Common.{sym}
use Rattle.simplex_records.proofs.Voting.{index-own, index-other, never, half-of, other-half}
use Rattle.simplex_records.proofs.records.add_sent.Goals as goal
use Rattle.simplex_records.proofs.records.add_sent.Goals.{else-node-eq0-via-then-node-eq0+else-is_honest, else-node-eq0-via-else-node-eq0}

pub returns-in_ok-add : goal.returns-in_ok-add
returns-in_ok-add c =
    λ before noted same from stand. index-own c.args.votes.now _ c.args.setup.now before noted c.args.node c.args.packets.now
    (half-of c.args.node c.if-node-eq0.true) (sym c.if-is_honest.ensures) c.in_ok-add.ensures.scheme c.in_ok-add.ensures.count c.in_ok-add.ensures.votes same from stand

pub returns-else-node-eq0 : goal.returns-else-node-eq0
returns-else-node-eq0 c =
    elim c.else-node-eq0.branch [
      | else-node-eq0-via-then-node-eq0+else-is_honest w ↦
          λ before noted same from stand. index-other c.args.votes.now c.args.setup.now before noted c.args.node c.args.packets.now same from
          (never _ _ (sym w.if-is_honest.ensures)) stand
      | else-node-eq0-via-else-node-eq0 w ↦
          λ before noted same from stand. index-other c.args.votes.now c.args.setup.now before noted c.args.node c.args.packets.now same from
          (other-half c.args.node _ w.if-node-eq0.false) stand
    ]
