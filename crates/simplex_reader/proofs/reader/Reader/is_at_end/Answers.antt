use Rattle.std.proofs.Common.{arith}
use Rattle.simplex_reader.proofs.Following.{end_is}
use Rattle.simplex_reader.proofs.reader.Reader.is_at_end.Goals as goal

pub returns : goal.returns
returns c = λ setting before node follows runs.
    end_is c.args.self.now setting before node _ _ _ c.is_beyond.ensures (omega (arith, c.get-term.ensures.value)) (λ made known k. c.current.ensures made known k) follows runs
