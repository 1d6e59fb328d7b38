use Rattle.law_member.proofs.Standing.{stands_as_told}
use Rattle.law_member.proofs.batcher.batchers_stand_where_they_were_told.Goals as goal

pub returns-clause-current : goal.returns-clause-current
returns-clause-current c = λ made past. (stands_as_told made past).current_is

pub returns-clause-leader : goal.returns-clause-leader
returns-clause-leader c = λ made past. (stands_as_told made past).leader_is

pub returns-clause-finalized : goal.returns-clause-finalized
returns-clause-finalized c = λ made past. (stands_as_told made past).finalized_is
