use Rattle.std.proofs.Common.{◌≡◌, ◌∙◌, ◌+◌, arith}
use Rattle.simplex_mocks.proofs.Without.{below_me, from_me}
use Rattle.simplex_mocks.proofs.others.other_at.Goals as goal

pub returns-then-place-me : goal.returns-then-place-me
returns-then-place-me c n below more =
    let e : 0 + c.args.place ≡ c.args.place = omega arith in
    below_me 0 n c.args.me c.args.place (grind (arith, c.if-place-me.true)) (omega (arith, below)) ∙ e

pub returns-else-place-me : goal.returns-else-place-me
returns-else-place-me c n below more =
    let e : 0 + c.args.place + 1 ≡ c.args.place + 1 = omega arith in
    from_me 0 n c.args.me c.args.place (omega arith) (grind (arith, c.if-place-me.false)) (omega (arith, below)) more ∙ e
