use Rattle.std.proofs.Common.{arith}
use Rattle.std.proofs.lemmas.Result.{on_ok_weaker}
use Rattle.model_rules.specs.Calls.{known_of}
use Rattle.simplex_state.specs.Stands.{StandsFor, Keeps}
use Rattle.simplex_state.proofs.Expiring.{behind_one, verdict_none}
use Rattle.simplex_state.proofs.Replays.{judged_taken, judged_none}
use Rattle.simplex_state.proofs.state.State.replay_verdict.Goals as goal

pub returns-then-not-takes_verdict : goal.returns-then-not-takes_verdict
unfolding StandsFor
returns-then-not-takes_verdict g c = λ made calls s.
    judged_none (Keeps _ made) made (known_of made calls) _ _ _ (grind (arith, c.takes_verdict.ensures made calls s)) s

pub returns : goal.returns
unfolding StandsFor
returns g c = on_ok_weaker c.judge.result (λ did. λ made calls s.
    judged_taken (Keeps _ made) made (known_of made calls) _ _ _ (grind (arith, c.takes_verdict.ensures made calls s))
    (behind_one (Keeps _ made) _ _ _ (did made (known_of made calls) s (verdict_none (known_of made calls) c.args.view (grind (arith, c.takes_verdict.ensures made calls s)))))) c.judge.ensures
