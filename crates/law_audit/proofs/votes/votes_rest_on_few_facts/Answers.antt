use Rattle.law_audit.proofs.Looking.{same_current, same_notarize_at, same_finalize_at, same_records, same_records_answer, same_admits, same_takes, same_active}
use Rattle.law_audit.proofs.votes.votes_rest_on_few_facts.Goals as goal

pub returns-clause-current : goal.returns-clause-current
returns-clause-current c = λ made a b e. same_current a b e made

pub returns-clause-notarize : goal.returns-clause-notarize
returns-clause-notarize c = λ made a b view e. same_notarize_at a b e made view

pub returns-clause-finalize : goal.returns-clause-finalize
returns-clause-finalize c = λ made a b view e. same_finalize_at a b e made view

pub returns-clause-proposal : goal.returns-clause-proposal
returns-clause-proposal c = λ made a b proposal e. same_records a b e made proposal

pub returns-clause-answer : goal.returns-clause-answer
returns-clause-answer c = λ made a b view e. same_records_answer a b e made view

pub returns-clause-certificate : goal.returns-clause-certificate
returns-clause-certificate c = λ made a b view e. same_admits a b e made view

pub returns-clause-verdict : goal.returns-clause-verdict
returns-clause-verdict c = λ a b view e. same_takes a b e view

pub returns-clause-active : goal.returns-clause-active
returns-clause-active c = λ made a b e. same_active a b e made
