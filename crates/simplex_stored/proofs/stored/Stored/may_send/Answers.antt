use Rattle.std.proofs.Common.{sym, ◌∙◌}
use Rattle.std.proofs.lemmas.Result.{IfOk-weaker}
use Rattle.simplex_journal.specs.Contents.{kept}
use Rattle.simplex_stored.proofs.Order.{may-stored, may-again, may-not}
use Rattle.simplex_stored.proofs.stored.Stored.may_send.Goals as goal

pub returns-then-is_stored : goal.returns-then-is_stored
returns-then-is_stored c =
    λ xs stand. may-stored (kept c.args.self.now) c.args.before.now xs c.in-Ok.vote c.args.bytes.now _ (sym c.decode.ensures.exact ∙ c.in-Ok.is) c.in-Ok.ensures.found.1
    (sym c.is_stored.ensures ∙ c.if-is_stored.true) stand

pub returns-in-Nullify : goal.returns-in-Nullify
returns-in-Nullify c =
    IfOk-weaker c.holds.result _ _
    (λ held found xs stand. may-again (kept c.args.self.now) c.args.before.now xs c.in-Ok.vote c.in-Nullify.nullify c.args.bytes.now _ held (sym c.decode.ensures.exact ∙ c.in-Ok.is) c.in-Nullify.is
    c.in-Ok.ensures.found.1 (sym c.is_stored.ensures ∙ c.if-is_stored.false) found stand)
    c.holds.ensures

pub returns-in_default-vote : goal.returns-in_default-vote
returns-in_default-vote c =
    λ xs stand. may-not (kept c.args.self.now) c.args.before.now xs c.in-Ok.vote c.args.bytes.now _ (sym c.decode.ensures.exact ∙ c.in-Ok.is) c.in_default-vote.not-Nullify
    c.in-Ok.ensures.found.1 (sym c.is_stored.ensures ∙ c.if-is_stored.false) stand
