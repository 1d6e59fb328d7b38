use Rattle.std.proofs.Common.{true}
use Rattle.simplex_conflicts.proofs.Clashing.{takes_first, takes_second, takes_all, entry_answered, entry_stands}
use Rattle.simplex_conflicts.proofs.Tests.{if_ok}
use Rattle.simplex_conflicts.proofs.standing.Standing.take.Goals as goal

pub returns-then-branch-clause-answer : goal.returns-then-branch-clause-answer
returns-then-branch-clause-answer c =
    entry_answered c.args.self.now c.take_certificates.new.self c.args.entry.now true
    (takes_first _ _ c.args.entry.now _ _ c.as_slice.ensures c.if-branch.true c.in_ok-take_certificates.ensures)

pub returns-then-branch-2-clause-answer : goal.returns-then-branch-2-clause-answer
returns-then-branch-2-clause-answer c =
    entry_answered c.args.self.now c.take_calls.new.self c.args.entry.now true
    (takes_second _ _ _ c.args.entry.now _ _ _ _ c.as_slice.ensures c.as_slice-2.ensures c.if-branch.false c.if-branch-2.true
    c.in_ok-take_certificates.ensures c.in_ok-take_calls.ensures)

pub returns-clause-answer : goal.returns-clause-answer
returns-clause-answer c = if_ok c.take_packets.result
    (λ conflict takes.
    entry_answered c.args.self.now c.take_packets.new.self c.args.entry.now conflict
    (takes_all _ _ _ _ c.args.entry.now _ _ _ _ _ conflict c.as_slice.ensures c.as_slice-2.ensures c.as_slice-3.ensures c.if-branch.false c.if-branch-2.false
    c.in_ok-take_certificates.ensures c.in_ok-take_calls.ensures takes))
    c.take_packets.ensures

pub returns-clause-stands : goal.returns-clause-stands
returns-clause-stands c = if_ok c.take_packets.result
    (λ conflict takes none.
    entry_stands c.args.self.now c.take_packets.new.self c.args.entry.now conflict
    (takes_all _ _ _ _ c.args.entry.now _ _ _ _ _ conflict c.as_slice.ensures c.as_slice-2.ensures c.as_slice-3.ensures c.if-branch.false c.if-branch-2.false
    c.in_ok-take_certificates.ensures c.in_ok-take_calls.ensures takes) none)
    c.take_packets.ensures
