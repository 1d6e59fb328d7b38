use Rattle.law_agreement.proofs.CallFacts.{run-append, IsLegal-append, IsLegal-take, brought-append, sent_stays}
use Rattle.law_agreement.proofs.calls.calls_compose.Goals as goal

pub returns-clause-joined : goal.returns-clause-joined
returns-clause-joined c length m xs ys h k = IsLegal-append length m xs ys h k

pub returns-clause-cut : goal.returns-clause-cut
returns-clause-cut c length m k xs h = IsLegal-take length m k xs h

pub returns-clause-runs : goal.returns-clause-runs
returns-clause-runs c m xs ys = run-append m xs ys

pub returns-clause-brought : goal.returns-clause-brought
returns-clause-brought c xs ys = brought-append xs ys

pub returns-clause-sent : goal.returns-clause-sent
returns-clause-sent c m xs s k = sent_stays m xs s k
