use Rattle.std.proofs.Common.{List, length}
use Rattle.simplex_shared.specs.declared.op.Op.{Op}
use Rattle.simplex_shared.specs.Passes.{IsSamePass, calls_of}
use Rattle.simplex_turns.specs.Handing.{PutsBehind}
use Rattle.simplex_turns.proofs.handing.put_all.Given as goal

-- once what is left is put, all is
abbrev pub invariant-loop-message : goal.invariant-loop-message
invariant-loop-message g l = record {
  own : IsSamePass l.fn.pass l.pass;
  put : (after : List (Op g.row.M.Denot)) → PutsBehind l.messages.items (calls_of l.pass) after → PutsBehind l.fn.messages.items (calls_of l.fn.pass) after;
}

abbrev pub decreases-loop-message : goal.decreases-loop-message
decreases-loop-message g l = length l.messages.items
