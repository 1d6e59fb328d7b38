use Rattle.std.proofs.Common.{◌∙◌, sym}
use Rattle.simplex_messages.specs.declared.step.Stop.TheVariants as stops
use Rattle.simplex_voter.proofs.Running.{made-whole, made-until, cut-named}
use Rattle.simplex_voter.proofs.Over.{whole-over, part-over, cut-over, uncut-beyond, cut-below, broke-some, broke-none}
use Rattle.simplex_voter.proofs.performing.make_until.Goals as goal

pub returns-in_default-clause-told : goal.returns-in_default-clause-told
returns-in_default-clause-told g c = λ told.
    made-whole _ _ _ _ _ (stops.Cut c.args.call c.args.keep)
    (cut-named c.args.call c.args.keep c.args.calls.now ∙ sym c.cut_place.ensures ∙ c.in_default.is) (c.in_ok-broke.ensures.told told)

pub returns-in_default-clause-over : goal.returns-in_default-clause-over
returns-in_default-clause-over g c =
    whole-over _ _ _ _ c.args.call c.args.keep
    (cut-named c.args.call c.args.keep c.args.calls.now ∙ sym c.cut_place.ensures ∙ c.in_default.is)
    (uncut-beyond c.args.call c.args.calls.now (sym c.cut_place.ensures ∙ c.in_default.is)) c.in_ok-broke.ensures.over

pub returns-then-is_some-clause-told : goal.returns-then-is_some-clause-told
returns-then-is_some-clause-told g c = λ told.
    let none = (c.in_ok-broke-2.ensures.told told).unbroken in
    absurd (let e = rw none at c.if-is_some.ensures in cc)

pub returns-then-is_some-clause-over : goal.returns-then-is_some-clause-over
returns-then-is_some-clause-over g c =
    let some = broke-some _ c.if-is_some.ensures in
    part-over _ _ _ _ c.args.call c.args.keep c.in-Some.place some.0
    (cut-below c.args.call c.in-Some.place c.args.calls.now (sym c.cut_place.ensures ∙ c.in-Some.is)) some.1 c.in_ok-broke-2.ensures.over

pub returns-clause-told : goal.returns-clause-told
returns-clause-told g c = λ told.
    made-until c.args.calls.now _ _ _ _ _ _ c.args.call c.args.keep c.in-Some.place
    (cut-named c.args.call c.args.keep c.args.calls.now ∙ sym c.cut_place.ensures ∙ c.in-Some.is) (c.in_ok-broke-2.ensures.told told)
    c.crash.ensures.left (λ still. rw still at c.crash.ensures.order)

pub returns-clause-over : goal.returns-clause-over
returns-clause-over g c =
    cut-over _ _ _ _ _ c.args.call c.args.keep c.in-Some.place
    (cut-named c.args.call c.args.keep c.args.calls.now ∙ sym c.cut_place.ensures ∙ c.in-Some.is) (broke-none _ c.if-is_some.ensures) c.crash.ensures.left c.in_ok-broke-2.ensures.over
