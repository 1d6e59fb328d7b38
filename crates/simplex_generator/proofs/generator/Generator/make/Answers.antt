use Rattle.simplex_generator.proofs.Steps.{makes}
use Rattle.simplex_generator.proofs.generator.Generator.make.Goals as goal

pub returns-in-Ok-take_in-clause-made : goal.returns-in-Ok-take_in-clause-made
returns-in-Ok-take_in-clause-made c =
    makes c.args.self.now (record { alloc = c.args.self.now.alloc; network = c.apply.new.self; drawing = c.take_in.new.self }) c.args.event.now c.in-Ok.entry
    c.in-Ok.ensures.stands c.in-Ok.ensures.entry c.in-Ok-take_in.ensures
