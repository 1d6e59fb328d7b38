use Rattle.std.proofs.Common.{rules, ◌∙◌}
use Rattle.simplex_batcher.specs.Rounds.{found}
use Rattle.simplex_batcher.proofs.Holding.{none-of, none-forwarded}
use Rattle.simplex_batcher.proofs.working.forward_at.Goals as goal

pub returns-in-None-clause-works : goal.returns-in-None-clause-works
unfolding found
returns-in-None-clause-works c = λ made me before doing h.
    rw (c.get_mut.follows.holds-at-none, none-forwarded made c.args.view doing (none-of _ (c.in-None.ensures.value ∙ h.round_is))) h

pub returns-in_ok-forward_proposal-in-Some-clause-works : goal.returns-in_ok-forward_proposal-in-Some-clause-works
unfolding found
returns-in_ok-forward_proposal-in-Some-clause-works c = λ made me before doing h.
    let put = ((c.get_mut.follows.holds c.forward_proposal.new.round).3 (search rules)).1 in
    rw put (c.in_ok-forward_proposal-in-Some.ensures made me c.args.view before doing (rw (c.deref_mut.ensures.value, c.kept.view_is) (rw (← c.in-Some.ensures.value) at h)))
