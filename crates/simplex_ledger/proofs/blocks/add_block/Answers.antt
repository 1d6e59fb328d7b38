use Rattle.std.proofs.Common.{rules, ◌≡◌, None, sym}
use Rattle.simplex_ledger.specs.Index.{found_at}
use Rattle.simplex_ledger.proofs.Indexing.{one_more}
use Rattle.simplex_ledger.proofs.blocks.add_block.Goals as goal

pub returns-clause-added : goal.returns-clause-added
returns-clause-added c = λ before many of.
    let none : found_at c.args.index.now c.digest_of-digest.result ≡ None = search rules in
    one_more c.args.index.now c.insert.new.self before c.args.bytes.now c.digest_of-digest.result (record { place = c.args.place; transfers = c.in_ok-transfers.transfers })
    c.digest_of-digest.ensures (sym many) c.in_ok-transfers.ensures none c.in_ok-insert.ensures of
