use Rattle.std.proofs.Common.{Contains, sym, subst}
use Rattle.simplex_ledger.specs.Book.{AreSound}
use Rattle.simplex_ledgers.proofs.text.lines.Goals as goal

pub write_log-requires-clause-sound : goal.write_log-requires-clause-sound
write_log-requires-clause-sound c =
    let logs = c.args.logs.now in
    let log = c.loop-node-item.result in
    let there : Contains logs log = (c.loop-node.node-index, c.loop-node-test.true, sym c.loop-node-item.is) in
    subst (AreSound c.args.blocks.now) (sym c.as_slice.ensures) (c.requires.sound log there)
