use Rattle.law_run.specs.Sayings.{Passes}
use Rattle.law_run.proofs.Telling.{stepped_says, said}
use Rattle.law_run.proofs.sayings.steps_say_what_was_given.Goals as goal

pub returns : goal.returns
returns c = λ good made now input stop standing sections doing g k e.
    said (Passes good) stop doing sections (stepped_says (Passes good) made now standing input doing g k e)
