use Rattle.std.proofs.Common.{refl}
use Rattle.simplex_generator.proofs.TakenIn.{taken_in}
use Rattle.simplex_generator.proofs.drawing.Drawing.take_in.Goals as goal

pub returns : goal.returns
returns c =
    taken_in c.args.self.now
    (record { undelivered = c.take_in.new.self; requests = c.take_in-2.new.self; random = c.args.self.now.random; clock = c.in_ok-self.field-0; next = c.in_ok-self-2.field-0 })
    c.args.event.now c.args.entry.now c.in_ok-take_in.ensures c.in_ok-take_in-2.ensures.«open» c.in_ok-take_in-2.ensures.counts
    c.in_ok-self.ensures c.in_ok-self-2.ensures refl
