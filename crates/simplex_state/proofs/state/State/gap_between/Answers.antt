use Rattle.std.proofs.Common.{◌≡◌, ℕ, ◌<◌, ◌≤◌, ◌^◌, arith, rules, sym}
use Rattle.std.proofs.lemmas.Grind.{common_steps}
use Rattle.simplex_values.specs.Terms.{next_of}
use Rattle.simplex_state.proofs.Walking.{gap_none, gap_is}
use Rattle.simplex_state.proofs.state.State.gap_between.Goals as goal

pub returns-then-le : goal.returns-then-le
returns-then-le g c = λ made known k low. sym (gap_none made known c.args.parent c.args.view (grind (arith, common_steps, c.le.ensures, c.if-le.true)))

above : (parent next : ℕ) → parent < 2 ^ 64 → next ≡ next_of parent → parent ≤ next
unfolding next_of
above parent next low e = omega (arith, low, e)

pub returns : goal.returns
returns g c = λ made known k low.
    grind (
      arith,
      c.gap_from.ensures (λ q from lies. grind (arith, common_steps, k.settings.term_length, c.term_length.ensures, k.whole q, lies, k.covered q (omega (arith, from, low, above c.args.parent c.next.result (search rules) c.next.ensures)))),
      c.term_length.ensures,
      k.settings.term_length,
      gap_is made known c.args.self.now.covered c.args.parent c.next.result c.args.view
          (λ v l. k.covered v (omega (arith, l, low)))
          c.next.ensures
          (grind (arith, common_steps, c.le.ensures, c.if-le.false))
          (search rules),
    )
