use Rattle.std.proofs.Common.{arith}
use Rattle.std.proofs.lemmas.Grind.{common_steps}
use Rattle.simplex_round.specs.Forwarding.{is_missing_voter}
use Rattle.simplex_round.proofs.Counts.{filter_range_more}
use Rattle.simplex_round.proofs.round.Round.lacking.Goals as goal
use Rattle.simplex_round.proofs.round.Round.lacking.Goals.{then-lacks_notarize+in_ok-push, else-lacks_notarize}

pub loop-member-preserved : goal.loop-member-preserved
loop-member-preserved c =
    let test = is_missing_voter c.args.self.now.made c.args.self.now.known c.args.proposal.now in
    let more = filter_range_more test 0 c.loop-member.member in
    elim c.if-lacks_notarize.branch [
      | then-lacks_notarize+in_ok-push w ↦ grind (arith, common_steps, more, c.loop-member.invariant, c.lacks_notarize.ensures, w.if-lacks_notarize.true, w.missing-is, w.in_ok-push.ensures.items)
      | else-lacks_notarize w ↦ grind (arith, common_steps, more, c.loop-member.invariant, c.lacks_notarize.ensures, w.if-lacks_notarize.false, w.missing-is)
    ]
