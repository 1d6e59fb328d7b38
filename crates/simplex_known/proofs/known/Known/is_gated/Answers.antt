use Rattle.std.proofs.Common.{refl, sym, arith}
use Rattle.std.proofs.lemmas.Grind.{common_steps}
use Rattle.simplex_known.proofs.Gating.{ungated, gated_is}
use Rattle.simplex_known.proofs.known.Known.is_gated.Goals as goal

pub returns-in-None : goal.returns-in-None
returns-in-None c = λ made known k. sym (ungated c.args.self.now made known k c.args.view (λ q le. c.in-None.ensures.none q (omega arith)))

pub returns-then-lt : goal.returns-then-lt
returns-then-lt c = λ made known k.
    grind (
      arith,
      common_steps,
      c.covers.ensures,
      gated_is c.args.self.now made known k c.args.view c.in-Some.last _ _
          c.in-Some.ensures.member
          (omega (arith, c.in-Some.ensures.bound))
          (λ q le given. c.in-Some.ensures.greatest q (omega arith) given)
          refl
          refl,
    )

pub returns-else-lt : goal.returns-else-lt
returns-else-lt c = λ made known k.
    grind (
      arith,
      common_steps,
      gated_is c.args.self.now made known k c.args.view c.in-Some.last _ _
          c.in-Some.ensures.member
          (omega (arith, c.in-Some.ensures.bound))
          (λ q le given. c.in-Some.ensures.greatest q (omega arith) given)
          refl
          refl,
    )
