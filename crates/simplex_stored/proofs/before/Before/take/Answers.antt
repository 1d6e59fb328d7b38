use Rattle.std.proofs.Common.{sym, subst}
use Rattle.std.specs.Prelude.{◌++◌}
use Rattle.simplex_stored.specs.Before.{made, BeforeStands}
use Rattle.simplex_stored.proofs.Calls.{on-ok-two, before-append, before-sync, before-default}
use Rattle.simplex_stored.proofs.before.Before.take.Goals as goal

pub returns-in-Append : goal.returns-in-Append
returns-in-Append c =
    on-ok-two c.take_append.result
    (λ same more xs stand. subst (λ call. BeforeStands c.take_append.new.self (xs ++ made call)) (sym c.in-Append.is)
    (before-append c.args.self.now c.take_append.new.self xs c.in-Append.section c.in-Append.artifact same more stand))
    c.take_append.ensures.stored c.take_append.ensures.waiting

pub returns-in-Sync : goal.returns-in-Sync
returns-in-Sync c =
    on-ok-two c.sync.result
    (λ stores more xs stand. subst (λ call. BeforeStands c.sync.new.self (xs ++ made call)) (sym c.in-Sync.is)
    (before-sync c.args.self.now c.sync.new.self xs c.in-Sync.section stores more stand))
    c.sync.ensures.stored c.sync.ensures.waiting

pub returns-in_default : goal.returns-in_default
returns-in_default c = λ xs stand. before-default c.args.self.now xs c.args.call.now c.in_default.not-Append c.in_default.not-Sync stand
