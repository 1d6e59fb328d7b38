use Rattle.simplex_par.proofs.Stepping.{Part}
use Rattle.simplex_par.proofs.lanes.Lane.step.Given as goal

abbrev pub invariant-loop-k : goal.invariant-loop-k
invariant-loop-k g l = Part l.initial.self.dealt.items l.self.dealt.items l.k
