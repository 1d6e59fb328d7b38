use Rattle.law_member.proofs.Reporting.{added_blame_not, start_blames_not}
use Rattle.law_member.proofs.voters.voters_blame_nobody.Goals as goal

pub returns-clause-steps : goal.returns-clause-steps
returns-clause-steps c made now input standing doing member e =
    added_blame_not member _ doing.calls (c.certificates_that_go_out_were_added.ensures made now input standing doing e)

pub returns-clause-starts : goal.returns-clause-starts
returns-clause-starts c made now floor records member = start_blames_not member made now floor records
