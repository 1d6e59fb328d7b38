use Rattle.simplex_network.specs.Parts.{IsStarted}
use Rattle.simplex_network.proofs.OneHost.{host-started}
use Rattle.simplex_network.proofs.host.Host.start.Goals as goal

pub returns-clause-stands : goal.returns-clause-stands
returns-clause-stands c =
    λ setup member life stand. let journal = c.in_ok-journal.ensures.stands setup member life stand in
    host-started setup member c.args.config _ _ _ _ _ _ _ _ life journal.holds (c.in-Ok.ensures.stands journal.quiet)
    c.in_ok-outcome.ensures.stands c.in_ok-outcome.ensures.gives c.in_ok-self.ensures.stands

pub returns-clause-gives : goal.returns-clause-gives
unfolding IsStarted
returns-clause-gives c =
    λ setup member life stand. let journal = c.in_ok-journal.ensures.stands setup member life stand in
    rw journal.holds at (c.in_ok-outcome.ensures.gives _ (c.in-Ok.ensures.stands journal.quiet))
