use Rattle.std.proofs.Common.{arith}
use Rattle.std.proofs.lemmas.Grind.{common_steps}
use Rattle.simplex_state.specs.Progress.{progress_of}
use Rattle.simplex_state.proofs.Opening.{none_opens, one_opens, mismatch}
use Rattle.simplex_state.proofs.state.State.opening_nullification.Goals as goal

pub returns-in_default : goal.returns-in_default
unfolding progress_of
returns-in_default g c = λ made known k.
    none_opens _ made known k
    (λ q e. grind (arith, common_steps, c.in_default.ensures.none made.term_length q k.settings.some_length (grind (arith, e, k.progress))))

pub returns-then-ne : goal.returns-then-ne
unfolding progress_of
returns-then-ne g c = λ made known k.
    none_opens _ made known k
    (λ q e. mismatch made.term_length q c.in-Some.view c.args.self.now.progress.current _ k.settings.some_length
    c.last_nullified.ensures.fits
    (grind (arith, common_steps, c.ne.ensures, c.if-ne.true, c.next_term_start.ensures, k.settings.term_length))
    c.in-Some.ensures.below
    (grind (arith, e, k.progress))
    (c.in-Some.ensures.greatest made.term_length q k.settings.some_length (grind (arith, e, k.progress))))

pub returns : goal.returns
unfolding progress_of
returns g c = λ made known k.
    grind (
      arith,
      c.in_ok-nullification.ensures,
      c.view.view_is,
      one_opens c.args.self.now made known c.in-Some.view k
          c.in-Some.ensures.held
          (grind (arith, common_steps, c.ne.ensures, c.if-ne.false, c.next_term_start.ensures, k.settings.term_length, k.progress))
          (λ q e some. c.in-Some.ensures.greatest made.term_length q k.settings.some_length (grind (arith, e, k.progress)) some),
    )
