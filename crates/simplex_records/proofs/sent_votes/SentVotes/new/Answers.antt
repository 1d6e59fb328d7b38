use Rattle.std.proofs.Common.{◌∙◌, arith}
use Rattle.simplex_records.proofs.Voting.{index-new}
use Rattle.simplex_records.proofs.sent_votes.SentVotes.new.Goals as goal

pub returns : goal.returns
returns c =
    index-new _ c.args.setup.now c.in_ok-new.ensures.0 (omega (arith, c.in_ok-new.ensures.1, c.len-members.ensures, c.requires.few))
    (c.in_ok-blank_members.ensures.count ∙ c.len-members.ensures) c.in_ok-blank_members.ensures.blank
