use Rattle.simplex_simulator.proofs.Making.{went_on}
use Rattle.simplex_simulator.proofs.simulation.Simulation.make.Goals as goal

pub returns-in-Ok : goal.returns-in-Ok
returns-in-Ok c =
    went_on c.args.self.now c.take.new.self c.apply.new.self c.args.event c.in-Ok.entry
    c.in-Ok.ensures.stands c.in-Ok.ensures.entry c.in_ok-take-in-Ok.ensures.network c.in_ok-take-in-Ok.ensures.events
