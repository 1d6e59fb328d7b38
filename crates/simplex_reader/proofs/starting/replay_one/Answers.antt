use Rattle.std.proofs.Common.{arith}
use Rattle.std.proofs.lemmas.Grind.{common_steps}
use Rattle.std.proofs.lemmas.Result.{on_ok_weaker}
use Rattle.simplex_reader.proofs.Started.{replays_below, replays_above}
use Rattle.simplex_reader.proofs.starting.replay_one.Goals as goal

pub returns-then-le : goal.returns-then-le
returns-then-le c = replays_below c.args.known.now c.args.floor c.args.artifact.now (grind (arith, common_steps, c.view.ensures, c.le.ensures, c.if-le.true))

pub returns : goal.returns
returns c =
    on_ok_weaker c.replay.result
    (λ did. replays_above c.args.known.now c.replay.new.self c.args.floor c.args.artifact.now (grind (arith, common_steps, c.view.ensures, c.le.ensures, c.if-le.false)) did)
    c.replay.ensures
