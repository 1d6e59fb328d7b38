use Rattle.std.proofs.Common.{◌∙◌}
use Rattle.model_audit.specs.Conflicts.{all_standing}
use Rattle.simplex_conflicts.proofs.standing.Standing.new.Goals as goal

pub returns : goal.returns
unfolding all_standing
returns c = record {
  base = c.in_ok-new.ensures.0;
  members = c.in_ok-new.ensures.1 ∙ c.members_of.ensures.count;
  length = c.new-2.ensures.length ∙ c.term_of.ensures;
  index = c.new-2.ensures.stands;
}
