use Rattle.std.proofs.Common.{rules, ◌≡◌, ◌∙◌, ap, sym, length, arith}
use Rattle.std.specs.Prelude.{sum}
use Rattle.std.proofs.lemmas.Grind.{common_steps}
use Rattle.model_ledger.specs.Ledger.{balances_at}
use Rattle.simplex_ledger.specs.Book.{Book, balances_of, entries_of, extended}
use Rattle.simplex_ledger.proofs.Extending.{balances_small, extended_entries, extended_along, along_balances}
use Rattle.simplex_ledger.proofs.ledger.Ledger.extend.Goals as goal

pub apply_steps-requires : goal.apply_steps-requires
apply_steps-requires c =
    let book : Book = record { accounts = c.self.inside.accounts.items; applied = c.self.inside.applied.items } in
    let small = balances_small book c.self.inside.balances.items c.self.inside.total c.self.invariant in
    let same : sum c.deref_mut.result.now ≡ sum c.self.inside.balances.items = ap sum c.deref_mut.ensures.value in
    omega (arith, small, same)

pub returns-clause-applied : goal.returns-clause-applied
returns-clause-applied c = first_of (search rules, grind (arith, common_steps))

pub returns-clause-whole : goal.returns-clause-whole
returns-clause-whole c = ap entries_of (returns-clause-applied c) ∙ extended_entries c.args.self.now c.args.blocks.now c.args.log.now c.requires.begins

pub returns-clause-balances : goal.returns-clause-balances
returns-clause-balances c = λ along.
    let old = c.args.self.now in
    let log = c.args.log.now in
    let blocks = c.args.blocks.now in
    ap balances_of (returns-clause-applied c) ∙ along_balances (extended old blocks log) blocks log (extended_along old blocks log c.requires.begins along)
    ∙ ap (λ (book : Book). balances_at blocks book.accounts log (length log)) (sym c.self.view_is)
