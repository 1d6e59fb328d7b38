use Rattle.std.proofs.Common.{sym}
use Rattle.simplex_state.proofs.Runs.{nothing_holds, run_holds}
use Rattle.simplex_state.proofs.ranges.Ranges.contains.Goals as goal

pub returns-in-None : goal.returns-in-None
returns-in-None c = sym (nothing_holds c.args.self.now c.args.number c.in-None.ensures.none)

pub returns-in-Some : goal.returns-in-Some
returns-in-Some c =
    sym (run_holds c.args.self.now c.args.number c.in-Some.start c.in-Some.more c.in-Some.ensures.run c.in-Some.ensures.bound c.in-Some.ensures.greatest)
