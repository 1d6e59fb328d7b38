use Rattle.std.proofs.Common.{◌∙◌, sym, ap, if◌then◌else◌, None}
use Rattle.simplex_turns.specs.Batching.{heard_on}
use Rattle.simplex_turns.proofs.batcher.heard.Goals as goal

pub returns-then-is_among : goal.returns-then-is_among
returns-then-is_among c =
    let d = c.args.delivery in
    ap (λ b. if b then None else heard_on d.channel d.sender d.bytes) (sym c.if-is_among.true ∙ c.is_among.ensures)

pub returns : goal.returns
returns c =
    let d = c.args.delivery in
    c.input_of.ensures ∙ ap (λ b. if b then None else heard_on d.channel d.sender d.bytes) (sym c.if-is_among.false ∙ c.is_among.ensures)
