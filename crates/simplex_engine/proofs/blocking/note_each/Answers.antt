use Rattle.std.proofs.Common.{rules}
use Rattle.simplex_engine.proofs.Blocks.{noted-more}
use Rattle.simplex_engine.proofs.blocking.note_each.Goals as goal

pub loop-member-preserved : goal.loop-member-preserved
loop-member-preserved c = λ q.
    noted-more c.args.members.now c.args.blocked.now.keys c.loop-member.blocked.keys c.insert.new.self.keys c.loop-member.member-index c.member-item.result q (search rules) c.member-item.is
    (search rules) (c.loop-member.invariant q)
