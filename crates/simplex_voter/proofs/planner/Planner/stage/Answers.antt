use Rattle.std.proofs.Common.{sym, ◌∙◌}
use Rattle.simplex_voter.specs.Arrivals.{pending_of}
use Rattle.simplex_voter.proofs.Reading.{known-is}
use Rattle.simplex_voter.proofs.Cases.{stage-certified}
use Rattle.simplex_voter.proofs.planner.Planner.stage.Goals as goal

pub returns-then-parent_certified-clause-view : goal.returns-then-parent_certified-clause-view
returns-then-parent_certified-clause-view g c = λ made answers doing s.
    rw (stage-certified made (pending_of c.args.pending.now) c.args.payload.now doing (rw (known-is s) (sym (c.parent_certified.ensures.answer made s.calls s.state) ∙ c.if-parent_certified.true)))
    (c.in_ok-view.ensures.view made answers doing s)
