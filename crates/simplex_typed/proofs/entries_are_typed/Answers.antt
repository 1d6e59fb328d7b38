use Rattle.std.proofs.Common.{subst, ◌≡◌, arith, length}
use Rattle.law_run.specs.Fitting.{IsTyped}
use Rattle.simplex_typed.proofs.Eaches.{each_more, each_all}
use Rattle.simplex_typed.proofs.entries_are_typed.Goals as goal

pub loop-entry-preserved : goal.loop-entry-preserved
loop-entry-preserved c =
    each_more IsTyped c.args.entries.now c.loop-entry.entry-index c.entry-item.result c.loop-entry-test.true c.loop-entry.invariant (subst IsTyped c.entry-item.is c.entry_is_typed.ensures)

pub returns : goal.returns
returns c =
    let end : c.loop-entry.entry-index ≡ length c.args.entries.now = omega (arith, c.loop-entry-test.false, c.loop-entry.auto.entry-index-end) in
    each_all IsTyped c.args.entries.now c.loop-entry.entry-index end c.loop-entry.invariant
