use Rattle.std.proofs.Common.{◌∷◌}
use Rattle.law_agreement.specs.Member.{newborn, run}
use Rattle.law_agreement.proofs.Invariant.{sent_in_order}
use Rattle.law_member.proofs.Arriving.{authentic}
use Rattle.law_member.proofs.Blaming.{not_blamed}
use Rattle.law_member.proofs.evidence.evidence_names_no_honest_member.Goals as goal

pub returns-clause-in_order : goal.returns-clause-in_order
returns-clause-in_order c = not_blamed

pub returns-clause-lives : goal.returns-clause-lives
returns-clause-lives c made past given member length lived pos legal own =
    not_blamed made past given member length (run newborn lived).sent (sent_in_order length pos lived legal) own

pub returns-clause-wire : goal.returns-clause-wire
returns-clause-wire c made past given member length lived calls handed pos legal fits packets mail own =
    not_blamed made past given member length (run newborn lived).sent (sent_in_order length pos lived legal)
    (authentic member calls handed (run newborn lived).sent fits packets mail (given ∷ past) own)
