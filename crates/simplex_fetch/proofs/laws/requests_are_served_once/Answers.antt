use Rattle.model_resolver.specs.Fetcher.{served}
use Rattle.simplex_fetch.proofs.Rounds.{served_none, none_sent}
use Rattle.simplex_fetch.proofs.laws.requests_are_served_once.Goals as goal

pub returns : goal.returns
unfolding served
returns c = λ fetcher id rising first second. none_sent second _ (served_none id fetcher.serving rising)
