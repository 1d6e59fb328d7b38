use Rattle.std.proofs.Common.{arith}
use Rattle.std.proofs.lemmas.Grind.{common_steps}
use Rattle.simplex_batcher.specs.Activity.{seen_in}
use Rattle.simplex_batcher.proofs.Counting.{count_more}
use Rattle.simplex_batcher.proofs.activity.count_seen.Goals as goal

pub loop-member-preserved : goal.loop-member-preserved
loop-member-preserved c =
    let more = count_more (seen_in c.args.seen.now c.args.since) c.loop-member.member in
    (grind (arith, common_steps), grind (arith, common_steps))
