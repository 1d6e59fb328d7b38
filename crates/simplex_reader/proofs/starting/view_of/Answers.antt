use Rattle.std.proofs.Common.{Option, sym, ap, ◌∙◌}
use Rattle.simplex_wire.specs.declared.certificate.Finalization.{Finalization}
use Rattle.model_steps.specs.Voter.{floor_view}
use Rattle.model_run.specs.Members.{floor_of}
use Rattle.simplex_reader.proofs.starting.view_of.Goals as goal

pub returns-in-None : goal.returns-in-None
returns-in-None c = λ genesis. ap (λ (floor : Option Finalization). floor_view (floor_of genesis floor)) (sym c.in-None.is)

pub returns-in-Some : goal.returns-in-Some
returns-in-Some c = λ genesis. c.view.ensures ∙ ap (λ (floor : Option Finalization). floor_view (floor_of genesis floor)) (sym c.in-Some.is)
