use Rattle.std.proofs.Common.{rules}
use Rattle.simplex_engine.proofs.Blocks.{told-more}
use Rattle.simplex_engine.proofs.blocking.tell_each.Goals as goal

pub loop-member-preserved : goal.loop-member-preserved
loop-member-preserved g c = λ made past h.
    rw (told-more c.args.members.now c.loop-member.member-index c.member-item.result past (search rules), ← c.member-item.is)
    (c.in_ok-block.ensures made _ (c.loop-member.invariant made past h))
