use Rattle.std.proofs.Common.{◌≡◌, ◌∙◌, arith}
use Rattle.std.proofs.lemmas.Grind.{common_steps}
use Rattle.simplex_members.proofs.Rounds.{taken_if_good}
use Rattle.simplex_members.proofs.scripts.scripted.Goals as goal

pub returns : goal.returns
returns c =
    let same : c.in_ok-leader.leader ≡ c.args.round.now.leader = grind (arith, common_steps) in
    c.ok-2.ensures.value ∙ taken_if_good c.args.members c.in_ok-leader.leader c.args.round.now c.new.result same c.new.ensures.made c.new.ensures.fault
