use Rattle.std.proofs.Common.{◌≡◌, ◌+◌, ◌-◌, sym, subst, arith, set}
use Rattle.simplex_twins.specs.Script.{ScriptedRound}
use Rattle.simplex_twins.proofs.Odometer.{IsReset, reset_at_start, reset_more, found, good_set, first}
use Rattle.simplex_twins.proofs.scenarios.advance.Goals as goal

pub loop-place-init : goal.loop-place-init
loop-place-init c = reset_at_start c.args.participants c.args.rounds.now c.requires.good

pub returns-in-Some-clause-next : goal.returns-in-Some-clause-next
returns-in-Some-clause-next c =
    let back : c.loop-place.place ≡ c.loop-place.place - 1 + 1 = omega arith in
    found c.args.participants c.args.rounds.now c.loop-place.rounds (c.loop-place.place - 1) c.index-rounds-place.result c.in-Some.later c.requires.some
    (subst (IsReset c.args.participants c.args.rounds.now c.loop-place.rounds) back c.loop-place.invariant)
    c.loop-place.auto.rounds c.index-rounds-place.is c.in-Some.ensures.next

pub returns-in-Some-clause-good : goal.returns-in-Some-clause-good
returns-in-Some-clause-good c =
    good_set c.args.participants c.loop-place.rounds (c.loop-place.place - 1) c.in-Some.later c.loop-place.invariant.good c.in-Some.ensures.good

pub loop-place-preserved : goal.loop-place-preserved
loop-place-preserved c =
    let back : c.loop-place.place ≡ c.loop-place.place - 1 + 1 = omega arith in
    let reset : IsReset c.args.participants c.args.rounds.now (set c.loop-place.rounds (c.loop-place.place - 1) first) (c.loop-place.place - 1) =
    reset_more c.args.participants c.args.rounds.now c.loop-place.rounds (c.loop-place.place - 1) c.index-rounds-place.result c.requires.some
    (subst (IsReset c.args.participants c.args.rounds.now c.loop-place.rounds) back c.loop-place.invariant)
    c.loop-place.auto.rounds c.index-rounds-place.is c.in-None.ensures.next in
    subst (λ (round : ScriptedRound). IsReset c.args.participants c.args.rounds.now (set c.loop-place.rounds (c.loop-place.place - 1) round) (c.loop-place.place - 1)) (sym c.first.ensures) reset
