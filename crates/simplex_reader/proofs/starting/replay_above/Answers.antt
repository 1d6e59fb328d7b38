use Rattle.std.proofs.Common.{List, subst}
use Rattle.simplex_wire.specs.declared.artifact.Artifact.{Artifact}
use Rattle.simplex_reader.specs.Starting.{Replays}
use Rattle.simplex_reader.proofs.Listing.{take-next, take-done}
use Rattle.simplex_reader.proofs.Started.{replays_none, replays_more}
use Rattle.simplex_reader.proofs.starting.replay_above.Goals as goal

pub loop-artifact-init : goal.loop-artifact-init
loop-artifact-init c = replays_none c.args.known.now c.args.floor

pub loop-artifact-preserved : goal.loop-artifact-preserved
loop-artifact-preserved c =
    subst (λ (records : List Artifact). Replays c.args.known.now c.replay_one.new.known c.args.floor records)
    (take-next c.args.records.now c.loop-artifact.artifact-index c.artifact-item.result c.loop-artifact-test.true c.artifact-item.is)
    (replays_more c.args.known.now c.loop-artifact.known c.replay_one.new.known c.args.floor _ _ c.loop-artifact.invariant c.in_ok-replay_one.ensures)

pub returns : goal.returns
returns c =
    subst (λ (records : List Artifact). Replays c.args.known.now c.loop-artifact.known c.args.floor records)
    (take-done c.args.records.now c.loop-artifact.artifact-index c.loop-artifact-test.false)
    c.loop-artifact.invariant
