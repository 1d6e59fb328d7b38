use Rattle.std.proofs.Common.{sym, ◌∙◌, arith}
use Rattle.simplex_judge.proofs.Verdicts.{left-fault, left-missing, left-more, left-next, left-sound, so_far, stands-first, stands-next}
use Rattle.simplex_judge.proofs.verdict.judge_all.Goals as goal

pub loop-place-init : goal.loop-place-init
loop-place-init c = (
  omega arith,
  omega arith,
  λ setting same. stands-first c.in_ok-kept.kept setting c.args.events.now c.args.entries.now (c.in_ok-kept.ensures setting same),
)

pub returns-then-place-entries : goal.returns-then-place-entries
returns-then-place-entries c =
    λ setting same. c.fault_at.ensures
    ∙ left-missing setting c.args.events.now c.args.entries.now c.loop-place.place c.index-events-place.result _ _ c.loop-place-test.true c.if-place-entries.true c.loop-place.invariant.0
    c.index-events-place.is (omega arith) (c.loop-place.invariant.2 setting same).1

pub returns-in-Some : goal.returns-in-Some
returns-in-Some c =
    λ setting same. c.fault_at-in-Some.ensures
    ∙ left-fault setting c.args.events.now c.args.entries.now c.loop-place.place c.index-events-place.result c.index-entries-place.result c.in-Some.cause _ _ c.loop-place-test.true
    c.if-place-entries.false c.index-events-place.is c.index-entries-place.is (omega arith)
    (sym c.in-Some.is ∙ (c.in_ok-fault.ensures setting same).answers (so_far c.args.events.now c.args.entries.now c.loop-place.place) (c.loop-place.invariant.2 setting same).0)
    (c.loop-place.invariant.2 setting same).1

pub loop-place-preserved : goal.loop-place-preserved
loop-place-preserved c = (
  omega (arith, c.if-place-entries.false),
  omega (arith, c.loop-place-test.true),
  λ setting same. (
    stands-next c.judge.new.self setting c.args.events.now c.args.entries.now c.loop-place.place c.index-events-place.result c.index-entries-place.result c.loop-place-test.true
        c.if-place-entries.false c.index-events-place.is c.index-entries-place.is
        ((c.in_ok-fault.ensures setting same).stands (so_far c.args.events.now c.args.entries.now c.loop-place.place) (c.loop-place.invariant.2 setting same).0 c.in-None.is),
    left-next setting c.args.events.now c.args.entries.now c.loop-place.place c.index-events-place.result c.index-entries-place.result _ c.loop-place-test.true c.if-place-entries.false
        c.index-events-place.is c.index-entries-place.is
        (sym c.in-None.is ∙ (c.in_ok-fault.ensures setting same).answers (so_far c.args.events.now c.args.entries.now c.loop-place.place) (c.loop-place.invariant.2 setting same).0)
        (c.loop-place.invariant.2 setting same).1,
  ),
)

pub returns-then-entries-events : goal.returns-then-entries-events
returns-then-entries-events c =
    λ setting same. c.fault_at-then-entries-events.ensures
    ∙ left-more setting c.args.events.now c.args.entries.now c.loop-place.place _ _ c.loop-place-test.false c.loop-place.invariant.1
    (omega (arith, c.if-entries-events.true, c.loop-place.invariant.1)) (omega (arith, c.loop-place-test.false, c.loop-place.invariant.1)) (c.loop-place.invariant.2 setting same).1

pub returns : goal.returns
returns c =
    λ setting same. left-sound setting c.args.events.now c.args.entries.now c.loop-place.place _ c.loop-place-test.false
    (omega (arith, c.if-entries-events.false, c.loop-place-test.false)) (c.loop-place.invariant.2 setting same).1
