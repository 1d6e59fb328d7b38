use Rattle.std.proofs.Common.{[]}
use Rattle.model_steps.specs.Desk.{begun}
use Rattle.model_steps.specs.Voter.{started, blank_desk}
use Rattle.simplex_voter.proofs.Restoring.{whole-blank, whole-floor, keeps-floor}
use Rattle.simplex_voter.proofs.planner.Planner.start.Goals as goal

pub returns : goal.returns
unfolding started
returns g c = λ made s.
    let stood = c.in_ok-stand_on.ensures made [] _ s whole-blank in
    let all = c.in_ok-replay_all.ensures made [] _ stood (whole-floor made c.args.now c.args.floor.now (begun blank_desk) whole-blank) in
    let replayed = c.in_ok-hand.ensures made [] _ all in
    let kept = c.in_ok-keep_floor.ensures made [] _ replayed in
    let updated = c.in_ok-hand-2.ensures made [] _ kept in
    let begun' = c.in_ok-begin_iteration.ensures made [] _ updated in
    rw (c.update_message-update.ensures made [] _ kept, c.view_of.ensures, c.holds_floor-is_held.ensures, keeps-floor c.args.floor.now c.args.records.now _) at begun'
