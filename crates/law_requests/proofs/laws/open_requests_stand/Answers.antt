use Rattle.law_requests.proofs.Requests.{requests_stand, answers_stand}
use Rattle.law_requests.proofs.laws.open_requests_stand.Goals as goal

pub returns-clause-stand : goal.returns-clause-stand
returns-clause-stand c = requests_stand

pub returns-clause-answered : goal.returns-clause-answered
returns-clause-answered c = answers_stand
