use Rattle.std.proofs.Common.{true≢false, sym, ◌∙◌}
use Rattle.simplex_form.proofs.Texts.{json_of_some, json_of_none}
use Rattle.simplex_form.proofs.input.parse.Goals as goal

pub returns-in-Ok : goal.returns-in-Ok
returns-in-Ok c = json_of_some c.args.bytes.now _ c.in-Ok.ensures.ok.0 c.in-Ok.ensures.ok.1

pub returns-else-is_memory : goal.returns-else-is_memory
returns-else-is_memory c = json_of_none c.args.bytes.now (c.in-Err.ensures.err (λ memory. true≢false (sym (c.is_memory.ensures.1 memory) ∙ c.if-is_memory.false)))
