use Rattle.std.proofs.Common.{leb-true, le-leb}
use Rattle.simplex_values.specs.Maps.{found}
use Rattle.simplex_conflicts.proofs.Climbing.{reaches_none, reaches_most}
use Rattle.simplex_conflicts.proofs.stairs.Stairs.reaches.Goals as goal

pub returns-in-None : goal.returns-in-None
returns-in-None c = λ spanned stands.
    (λ e. absurd (cc), λ w. absurd (reaches_none (λ a. found c.args.self.now.uppers a) c.args.lower c.args.upper c.in-None.ensures.none w))

pub returns-in-Some : goal.returns-in-Some
returns-in-Some c = λ spanned stands. (
  λ e. (c.in-Some.field-0-0, c.in-Some.other, c.in-Some.ensures.pair, c.in-Some.ensures.bound, leb-true c.args.upper c.in-Some.other e),
  λ w. le-leb c.args.upper c.in-Some.other
      (reaches_most (λ a. found c.args.self.now.uppers a) spanned c.args.lower c.args.upper c.in-Some.field-0-0 c.in-Some.other stands
      c.in-Some.ensures.pair c.in-Some.ensures.greatest w),
)
