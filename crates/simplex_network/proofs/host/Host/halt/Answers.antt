use Rattle.model_run.specs.Life.{Running}
use Rattle.simplex_network.proofs.OneHost.{going-broken}
use Rattle.simplex_network.proofs.host.Host.halt.Goals as goal

pub returns-clause-stands : goal.returns-clause-stands
returns-clause-stands c =
    λ setup member made past broken stand. going-broken setup member _ made past broken (c.in_ok-journal.ensures.stands setup member (Running made past) stand)
