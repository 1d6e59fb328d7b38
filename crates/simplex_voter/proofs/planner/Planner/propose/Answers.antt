use Rattle.std.proofs.Common.{refl, sym, ◌∙◌}
use Rattle.simplex_voter.specs.Arrivals.{pending_of}
use Rattle.simplex_voter.proofs.Cases.{propose-recorded, propose-refused}
use Rattle.simplex_voter.proofs.planner.Planner.propose.Goals as goal

pub returns-then-not-is_recorded-clause-view : goal.returns-then-not-is_recorded-clause-view
returns-then-not-is_recorded-clause-view g c = λ made answers doing s.
    rw (propose-refused made (pending_of c.args.pending.now) c.args.payload.now doing (sym (c.in_ok-is_recorded.ensures.answer made answers doing s) ∙ c.if-not-is_recorded.true)) refl

pub returns-clause-view : goal.returns-clause-view
returns-clause-view g c = λ made answers doing s.
    rw (propose-recorded made (pending_of c.args.pending.now) c.args.payload.now doing (sym (c.in_ok-is_recorded.ensures.answer made answers doing s) ∙ c.if-not-is_recorded.false)) refl

pub returns-clause-stands : goal.returns-clause-stands
returns-clause-stands g c = λ made answers doing s.
    rw (propose-recorded made (pending_of c.args.pending.now) c.args.payload.now doing (sym (c.in_ok-is_recorded.ensures.answer made answers doing s) ∙ c.if-not-is_recorded.false))
    (c.in_ok-make.ensures made answers _ (c.settle_proposal.ensures made answers _ (c.in_ok-is_recorded.ensures.stands made answers doing s)))
