use Rattle.std.proofs.Common.{arith, ◌≡◌, sym, ◌∙◌}
use Rattle.std.proofs.lemmas.Grind.{common_steps}
use Rattle.model_rules.specs.Calls.{known_of}
use Rattle.model_rules.specs.Votes.{notarize_at, signed_notarize}
use Rattle.simplex_state.specs.Stands.{StandsFor}
use Rattle.simplex_state.proofs.Proposing.{slot_is}
use Rattle.simplex_state.proofs.Checking.{signed, signed_is}
use Rattle.simplex_state.proofs.state.State.notarize_at.Goals as goal

pub returns-then-not-ready : goal.returns-then-not-ready
unfolding StandsFor signed_notarize
returns-then-not-ready g c = λ made calls s.
    grind (
      arith,
      common_steps,
      signed made (known_of made calls) c.args.view c.in-Some.proposal s.sound
          (grind (arith, slot_is (known_of made calls) c.args.view, s.rounds c.args.view (c.is_votable.ensures.above made (known_of made calls) s (grind (arith, c.if-not-is_votable.false))), c.round_at-round.ensures, c.slot.ensures, c.in-Some.is)),
      s.rounds c.args.view (c.is_votable.ensures.above made (known_of made calls) s (grind (arith, c.if-not-is_votable.false))),
      c.is_votable.ensures.answer made calls s,
      c.round_at-round.ensures,
    )

pub returns : goal.returns
unfolding StandsFor
returns g c = λ made calls s. (
    let e : notarize_at made (known_of made calls) c.args.view ≡ signed_notarize made c.in-Some.proposal = grind (
      arith,
      common_steps,
      signed made (known_of made calls) c.args.view c.in-Some.proposal s.sound
          (grind (arith, slot_is (known_of made calls) c.args.view, s.rounds c.args.view (c.is_votable.ensures.above made (known_of made calls) s (grind (arith, c.if-not-is_votable.false))), c.round_at-round.ensures, c.slot.ensures, c.in-Some.is)),
      s.rounds c.args.view (c.is_votable.ensures.above made (known_of made calls) s (grind (arith, c.if-not-is_votable.false))),
      c.is_votable.ensures.answer made calls s,
      c.round_at-round.ensures,
    ) in
    signed_is made c.in-Some.proposal _ _ s.attest (grind (arith, c.sign.ensures)) ∙ sym e)
