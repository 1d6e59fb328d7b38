use Rattle.std.proofs.Common.{sym, ap, ◌∙◌}
use Rattle.simplex_generator.specs.Drawing.{item_at}
use Rattle.simplex_generator.proofs.Choosing.{answered}
use Rattle.simplex_generator.proofs.drawing.Drawing.answer.Goals as goal

pub returns-in-Some-clause-later : goal.returns-in-Some-clause-later
returns-in-Some-clause-later c =
    answered c.args.self.now c.reply.new.self c.args.place c.in-Some.it.now
    (ap (λ l. item_at l c.args.place) (sym c.«open».ensures) ∙ sym c.in-Some.ensures) c.reply.ensures.later
