use Rattle.std.proofs.Common.{refl}
use Rattle.simplex_round.specs.Stands.{StandsFor}
use Rattle.simplex_batcher.specs.Hearing.{voted}
use Rattle.simplex_batcher.specs.Rounds.{round_of, given}
use Rattle.simplex_batcher.proofs.others.hear.Goals as goal

pub returns-clause-answer : goal.returns-clause-answer
unfolding round_of StandsFor
returns-clause-answer c = λ history is.
    let led = given c.args.leader.now history in
    let one = c.give.ensures history is in
    let accepted = c.in_ok-accepted.ensures.answer led.made led.calls one in
    let after = c.in_ok-accepted.ensures.stands led.made led.calls one in
    let nullified = c.has_nullify_of-nullified.ensures (voted c.args.leader.now c.args.sender c.args.vote.now history) after in
    rw (accepted, nullified) refl
