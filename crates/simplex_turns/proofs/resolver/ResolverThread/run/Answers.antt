use Rattle.std.proofs.Common.{refl}
use Rattle.simplex_turns.proofs.ResolverTurned.{same-resolver, runs-nothing, runs-more}
use Rattle.simplex_turns.proofs.resolver.ResolverThread.run.Goals as goal

pub loop-turn-init : goal.loop-turn-init
loop-turn-init g c = record {
  same = record { own = (refl, refl); voter = (refl, refl); now = refl };
  runs = rw c.new-outs.ensures.items (runs-nothing c.args.self);
}

pub loop-turn-preserved : goal.loop-turn-preserved
loop-turn-preserved g c =
    let so_far = c.loop-turn.invariant in record {
      same = same-resolver c.args.self c.loop-turn.self c.turn.new.self so_far.same c.in_ok-out.ensures.same;
      runs = rw c.in_ok-push.ensures.items (runs-more c.args.self c.loop-turn.self c.turn.new.self c.loop-turn.turn c.loop-turn.outs.items c.in_ok-out.out so_far.same so_far.runs c.in_ok-out.ensures.turns);
    }
