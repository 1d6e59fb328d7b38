use Rattle.std.proofs.Common.{refl}
use Rattle.model_rules.specs.Calls.{Replay, known_of, facts_of, kept_notarization, kept_finalization}
use Rattle.simplex_state.specs.Stands.{StandsFor}
use Rattle.simplex_state.proofs.Proposing.{takes_facts}
use Rattle.simplex_state.proofs.state.State.replay.Goals as goal

pub returns-in_ok-keep_notarization-in-Notarization-clause-stands : goal.returns-in_ok-keep_notarization-in-Notarization-clause-stands
unfolding StandsFor facts_of
returns-in_ok-keep_notarization-in-Notarization-clause-stands g c = λ made calls s.
    takes_facts _ made calls (Replay c.args.artifact c.args.now) (kept_notarization c.in-Notarization.notarization c.args.now)
    (rw c.in-Notarization.is refl)
    (c.in_ok-keep_notarization-in-Notarization.ensures made (known_of made calls) s)

pub returns-in_ok-keep_finalization-in-Finalization-clause-stands : goal.returns-in_ok-keep_finalization-in-Finalization-clause-stands
unfolding StandsFor facts_of
returns-in_ok-keep_finalization-in-Finalization-clause-stands g c = λ made calls s.
    takes_facts _ made calls (Replay c.args.artifact c.args.now) (kept_finalization c.in-Finalization.finalization c.args.now)
    (rw c.in-Finalization.is refl)
    (c.in_ok-keep_finalization-in-Finalization.ensures made (known_of made calls) s)
