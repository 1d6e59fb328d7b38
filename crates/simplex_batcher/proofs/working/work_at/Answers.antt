use Rattle.std.proofs.Common.{rules, ◌∙◌}
use Rattle.simplex_batcher.specs.Rounds.{found}
use Rattle.simplex_batcher.proofs.Holding.{none-of, none-near}
use Rattle.simplex_batcher.proofs.working.work_at.Goals as goal

pub returns-in-None-clause-works : goal.returns-in-None-clause-works
unfolding found
returns-in-None-clause-works g c = λ made me same before doing h.
    rw (c.get_mut.follows.holds-at-none, none-near made c.args.view doing (none-of _ (c.in-None.ensures.value ∙ h.round_is))) h

pub returns-in_ok-work_round-in-Some-clause-works : goal.returns-in_ok-work_round-in-Some-clause-works
unfolding found
returns-in_ok-work_round-in-Some-clause-works g c = λ made me same before doing h.
    let put = ((c.get_mut.follows.holds c.work_round.new.round).3 (search rules)).1 in
    rw put (c.in_ok-work_round-in-Some.ensures made me same c.args.view before doing (rw (c.deref_mut.ensures.value, c.kept.view_is) (rw (← c.in-Some.ensures.value) at h)))
