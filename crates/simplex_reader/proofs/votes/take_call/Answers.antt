use Rattle.std.proofs.Common.{[], ◌∷◌, sym, subst}
use Rattle.std.proofs.lemmas.Result.{on_ok_weaker}
use Rattle.model_audit.specs.declared.record.AuditCall.{AuditCall}
use Rattle.simplex_reader.proofs.Voting.{Appends, appends_record}
use Rattle.simplex_reader.proofs.votes.take_call.Goals as goal

pub returns-in-Append : goal.returns-in-Append
returns-in-Append c =
    on_ok_weaker c.take_record.result
    (λ did. subst (λ (call : AuditCall). Appends c.args.known.now c.take_record.new.known (call ∷ [])) (sym c.in-Append.is) (appends_record _ _ c.in-Append.field-0 _ did))
    c.take_record.ensures
