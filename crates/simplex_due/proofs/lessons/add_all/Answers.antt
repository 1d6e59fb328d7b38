use Rattle.std.proofs.Common.{◌-◌, List, subst, arith}
use Rattle.model_rules.specs.Known.{Fact}
use Rattle.simplex_known.specs.Knows.{Knows}
use Rattle.simplex_due.proofs.Adding.{all_left, none_left, one_less}
use Rattle.simplex_due.proofs.lessons.add_all.Goals as goal

pub loop-left-init : goal.loop-left-init
loop-left-init c = (omega arith, λ made facts now k. subst (λ (known : List Fact). Knows c.args.known.now made known) (all_left now c.args.added.now facts) k)

pub loop-left-preserved : goal.loop-left-preserved
loop-left-preserved c = (
  omega (arith, c.loop-left.invariant.0),
  λ made facts now k.
      subst (λ (known : List Fact). Knows c.add_certificate.new.self made known)
      (one_less now (c.loop-left.left - 1) c.loop-left.left c.args.added.now c.index-added-left.result facts
      (omega (arith, c.loop-left-test.true))
      (omega (arith, c.loop-left-test.true, c.loop-left.invariant.0))
      c.index-added-left.is)
      (c.in_ok-add_certificate.ensures now made _ (c.loop-left.invariant.1 made facts now k)),
)

pub returns : goal.returns
returns c = λ made facts now k.
    subst (λ (known : List Fact). Knows c.loop-left.known made known)
    (none_left now c.loop-left.left c.args.added.now facts c.loop-left-test.false)
    (c.loop-left.invariant.1 made facts now k)
