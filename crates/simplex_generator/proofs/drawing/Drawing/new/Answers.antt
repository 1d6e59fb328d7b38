use Rattle.std.proofs.Common.{refl}
use Rattle.simplex_generator.proofs.Choosing.{draws_first}
use Rattle.simplex_generator.proofs.drawing.Drawing.new.Goals as goal

pub returns : goal.returns
returns c =
    draws_first (record { undelivered = c.new.result; requests = c.new-2.result; random = c.random_of.result; clock = 0; next = 1 }) c.args.number
    c.new.ensures c.new-2.ensures.«open» c.new-2.ensures.counts refl refl c.random_of.ensures
