use Rattle.std.proofs.Common.{refl}
use Rattle.model_steps.specs.Desk.{begun}
use Rattle.model_steps.specs.Voter.{propose}
use Rattle.simplex_voter.specs.Arrivals.{pending_of}
use Rattle.simplex_voter.proofs.Reading.{known-is}
use Rattle.simplex_voter.proofs.Taking.{nothing-acted, acted-so}
use Rattle.simplex_voter.proofs.planner.Planner.take_held.Goals as goal

pub returns-then-not-parent_certified : goal.returns-then-not-parent_certified
returns-then-not-parent_certified g c = λ made answers desk s.
    nothing-acted (rw (known-is s, ← c.parent_certified.ensures.answer made s.calls s.state, c.if-not-parent_certified.true) refl) s

pub returns : goal.returns
returns g c = λ made answers desk s.
    acted-so (propose made (pending_of c.args.pending.now) c.args.payload.now (begun desk)) _
    (rw (known-is s) (rw (← c.parent_certified.ensures.answer made s.calls s.state, c.if-not-parent_certified.false) refl))
    (c.in_ok-touched.ensures.view made answers _ s)
    (c.in_ok-touched.ensures.stands made answers _ s)
