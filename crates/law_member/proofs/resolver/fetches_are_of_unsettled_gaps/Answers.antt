use Rattle.std.proofs.Common.{◌∷◌}
use Rattle.law_member.proofs.Settling.{gap_unsettled, fetch_is_new_gap, new_gap_fetched}
use Rattle.law_member.proofs.resolver.fetches_are_of_unsettled_gaps.Goals as goal

pub returns-clause-new : goal.returns-clause-new
returns-clause-new c = λ length held call view. (fetch_is_new_gap length held call view, new_gap_fetched length held call view)

pub returns-clause-unsettled : goal.returns-clause-unsettled
returns-clause-unsettled c = λ length held call view has. gap_unsettled length (call ∷ held) view (fetch_is_new_gap length held call view has).0
