use Rattle.std.proofs.Common.{◌++◌, sym, ap}
use Rattle.simplex_ledger.specs.Book.{Book, entries_of}
use Rattle.simplex_ledgers.proofs.text.ledger_of.Goals as goal

pub extend-requires-clause-begins : goal.extend-requires-clause-begins
extend-requires-clause-begins c = (c.args.log.now, ap (λ (book : Book). entries_of book ++ c.args.log.now) (sym c.in-Ok.ensures.made))
