use Rattle.std.proofs.Common.{refl, arith}
use Rattle.std.proofs.lemmas.List.{drop_all}
use Rattle.simplex_voter.proofs.Restoring.{replaying-next, replayed-all}
use Rattle.simplex_voter.proofs.planner.Planner.replay_all.Goals as goal

pub loop-artifact-init : goal.loop-artifact-init
loop-artifact-init g c = λ made answers doing s whole. record { doing = doing; stands = s; whole = whole; ends = refl }

pub loop-artifact-preserved : goal.loop-artifact-preserved
loop-artifact-preserved g c = λ made answers doing s whole.
    replaying-next _ _ made c.args.now c.args.floor doing _ _ c.artifact-item.result (omega arith) c.artifact-item.is
    (λ at known stands. c.in_ok-replay_above.ensures made answers at stands known) (c.loop-artifact.invariant made answers doing s whole)

pub returns : goal.returns
returns g c = λ made answers doing s whole.
    replayed-all _ made c.args.now c.args.floor doing _ _ (drop_all c.loop-artifact.artifact-index c.args.records.now (omega arith)) (c.loop-artifact.invariant made answers doing s whole)
