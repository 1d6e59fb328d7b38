use Rattle.std.proofs.Common.{refl}
use Rattle.simplex_values.specs.Maps.{found}
use Rattle.simplex_conflicts.proofs.Climbing.{clearing_none, clearing_more, cleared_none, cleared_some}
use Rattle.simplex_conflicts.proofs.stairs.Stairs.clear.Goals as goal

pub loop-first-init : goal.loop-first-init
loop-first-init c = clearing_none (λ a. found c.args.self.now.uppers a) c.args.lower c.args.upper

pub loop-first-preserved : goal.loop-first-preserved
loop-first-preserved c =
    clearing_more _ _ _ c.args.lower c.args.upper c.in-Some.first c.in-Some.other c.loop-first.invariant c.in-Some.ensures.pair c.in-Some.ensures.bound
    c.if-other-upper.false c.remove.ensures.values

pub returns-then-other-upper : goal.returns-then-other-upper
returns-then-other-upper c = λ spanned stands.
    cleared_some (λ a. found c.args.self.now.uppers a) (λ a. found c.loop-first.self.uppers a) spanned c.args.lower c.args.upper c.in-Some.first c.in-Some.other
    stands c.loop-first.invariant c.in-Some.ensures.pair c.in-Some.ensures.least c.if-other-upper.true

pub returns-in_default : goal.returns-in_default
returns-in_default c = λ spanned stands.
    cleared_none (λ a. found c.args.self.now.uppers a) (λ a. found c.loop-first.self.uppers a) c.args.lower c.args.upper
    c.loop-first.invariant c.in_default.ensures.none

pub loop-first-smaller : goal.loop-first-smaller
loop-first-smaller c = c.remove.ensures.fewer (rw c.in-Some.ensures.pair refl)
