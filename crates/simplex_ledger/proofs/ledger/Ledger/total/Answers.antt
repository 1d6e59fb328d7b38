use Rattle.std.proofs.Common.{◌≡◌, ◌∙◌, sym, ap}
use Rattle.std.specs.Prelude.{sum}
use Rattle.simplex_ledger.specs.Book.{Book, balances_of}
use Rattle.simplex_ledger.proofs.Extending.{balances_sum}
use Rattle.simplex_ledger.proofs.ledger.Ledger.total.Goals as goal

pub returns-clause-balances : goal.returns-clause-balances
returns-clause-balances c =
    let book : Book = record { accounts = c.self.inside.accounts.items; applied = c.self.inside.applied.items } in
    let seen : book ≡ c.args.self.now = c.self.view_is in
    c.self.invariant.sum_kept ∙ sym (balances_sum book) ∙ ap (λ (b : Book). sum (balances_of b)) seen
