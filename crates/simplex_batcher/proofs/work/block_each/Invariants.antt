use Rattle.std.proofs.Common.{◌≡◌, ◌++◌, map, drop}
use Rattle.simplex_messages.specs.Step.{block_call}
use Rattle.simplex_batcher.proofs.work.block_each.Given as goal

abbrev pub invariant-loop-block : goal.invariant-loop-block
invariant-loop-block l =
    l.calls ++ map block_call (drop l.block-index l.blocks) ≡ l.fn.calls ++ map block_call l.blocks
