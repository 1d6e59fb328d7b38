use Rattle.std.proofs.Common.{arith}
use Rattle.std.proofs.lemmas.Grind.{common_steps}
use Rattle.std.proofs.lemmas.Result.{on_ok_weaker}
use Rattle.simplex_known.proofs.Apart.{judged_kept, untaken_kept}
use Rattle.simplex_known.proofs.known.Known.judge_again.Goals as goal

pub returns-then-not-takes_verdict : goal.returns-then-not-takes_verdict
returns-then-not-takes_verdict c = λ made known now k.
    untaken_kept _ made known c.args.view c.args.good now (grind (arith, common_steps, c.takes_verdict.ensures made known k)) k

pub returns : goal.returns
returns c =
    on_ok_weaker c.judge.result
    (λ did made known now k.
    judged_kept _ made known c.args.view c.args.good now (grind (arith, common_steps, c.takes_verdict.ensures made known k)) (did now made known k))
    c.judge.ensures
