use Rattle.std.proofs.Common.{◌++◌, ap, sym}
use Rattle.simplex_ledger.specs.Book.{Book, entries_of}
use Rattle.bench.proofs.ledger.height.Goals as goal

pub extend-requires-clause-begins : goal.extend-requires-clause-begins
extend-requires-clause-begins c = (c.args.log.now, ap (λ (book : Book). entries_of book ++ c.args.log.now) (sym c.in_ok-ledger.ensures.made))
