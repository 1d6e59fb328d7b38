use Rattle.std.proofs.Common.{◌∙◌}
use Rattle.simplex_recording.proofs.faults.Faults.of.Goals as goal

pub returns : goal.returns
returns c = λ all stands. c.known_in.ensures ∙ stands.lists_are c.args.member c.args.view
