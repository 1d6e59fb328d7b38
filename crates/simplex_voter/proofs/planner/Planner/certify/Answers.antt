use Rattle.model_rules.specs.Pending.{drop_certify, certifying}
use Rattle.simplex_voter.proofs.planner.Planner.certify.Goals as goal

pub returns : goal.returns
unfolding drop_certify certifying
returns g c = λ made answers doing s.
    let dropped = c.in_ok-drop_certify.ensures made answers doing s in
    let told = c.in_ok-proposals.ensures.stands made answers _ dropped in
    let asked = c.in_ok-ask_each.ensures made answers _ told in
    let sought = c.in_ok-seek_parents.ensures made answers _ asked in
    rw (c.deref-2.ensures.value, c.deref.ensures.value, c.in_ok-proposals.ensures.requests made answers _ dropped, c.in_ok-proposals.ensures.fetches made answers _ dropped) at sought
