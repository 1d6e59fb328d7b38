use Rattle.std.proofs.Common.{arith}
use Rattle.std.proofs.lemmas.Grind.{common_steps}
use Rattle.model_rules.specs.Lists.{first_of}
use Rattle.model_rules.specs.Known.{notarization_of}
use Rattle.simplex_state.proofs.Moves.{keeps_sent_notarization}
use Rattle.simplex_state.proofs.state.State.keep_notarization.Goals as goal

pub returns-then-lt : goal.returns-then-lt
returns-then-lt g c = λ made known k.
    c.pass_notarization.ensures made known c.args.now (omega arith) k
    (grind (arith, common_steps, c.lt.ensures, c.if-lt.true, c.view-view.ensures, k.progress))

pub returns : goal.returns
unfolding notarization_of first_of
returns g c = λ made known k.
    keeps_sent_notarization _ made _ _ _
    (c.in_ok-know_notarization.ensures made known k (grind (arith, common_steps, c.lt.ensures, c.if-lt.false, c.view-view.ensures, k.progress)))
    (grind (arith, common_steps))
    (λ q. grind (arith, common_steps, c.mark_sent.ensures q, c.view-view.ensures))
