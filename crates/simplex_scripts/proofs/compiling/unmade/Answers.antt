use Rattle.simplex_scripts.proofs.Whole.{comes_refused, not_memory}
use Rattle.simplex_scripts.proofs.compiling.unmade.Goals as goal

pub returns-in_default : goal.returns-in_default
returns-in_default c = λ script refused.
    comes_refused script c.nothing.result c.args.error refused (not_memory c.args.error c.in_default.not-Memory) c.nothing.ensures.events
    c.nothing.ensures.lines
