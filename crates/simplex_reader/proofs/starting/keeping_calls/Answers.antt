use Rattle.std.proofs.Common.{Bool, sym, ap, ◌∙◌, if◌then◌else◌}
use Rattle.simplex_reader.proofs.StartCalls.{keeping_is}
use Rattle.simplex_reader.proofs.starting.keeping_calls.Goals as goal

pub returns-then-is_final_from-clause-calls : goal.returns-then-is_final_from-clause-calls
returns-then-is_final_from-clause-calls c =
    ap (λ (b : Bool). if b then 0 else 2) (sym c.if-is_final_from.true) ∙ keeping_is _ _ _ _ _ c.in-Some.is c.view.ensures c.is_final_from.ensures

pub returns-else-is_final_from-clause-calls : goal.returns-else-is_final_from-clause-calls
returns-else-is_final_from-clause-calls c =
    ap (λ (b : Bool). if b then 0 else 2) (sym c.if-is_final_from.false) ∙ keeping_is _ _ _ _ _ c.in-Some.is c.view.ensures c.is_final_from.ensures
