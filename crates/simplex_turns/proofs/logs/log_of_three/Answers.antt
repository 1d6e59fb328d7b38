use Rattle.simplex_turns.proofs.Passed.{of_three}
use Rattle.simplex_turns.proofs.logs.log_of_three.Goals as goal

pub returns-clause-first : goal.returns-clause-first
returns-clause-first g c = (of_three c.finish.result c.args.first c.args.second c.args.third _ _ _ _ c.new-passes.ensures.items c.in_ok-push.ensures.items c.in_ok-push-2.ensures.items c.in_ok-push-3.ensures.items c.finish.ensures.whole).0

pub returns-clause-second : goal.returns-clause-second
returns-clause-second g c = (of_three c.finish.result c.args.first c.args.second c.args.third _ _ _ _ c.new-passes.ensures.items c.in_ok-push.ensures.items c.in_ok-push-2.ensures.items c.in_ok-push-3.ensures.items c.finish.ensures.whole).1

pub returns-clause-third : goal.returns-clause-third
returns-clause-third g c = (of_three c.finish.result c.args.first c.args.second c.args.third _ _ _ _ c.new-passes.ensures.items c.in_ok-push.ensures.items c.in_ok-push-2.ensures.items c.in_ok-push-3.ensures.items c.finish.ensures.whole).2
