use Rattle.law_requests.proofs.Requests.{place_stands}
use Rattle.law_requests.proofs.laws.numbers_have_places.Goals as goal

pub returns : goal.returns
returns c = place_stands
