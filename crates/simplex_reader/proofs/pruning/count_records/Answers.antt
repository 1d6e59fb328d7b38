use Rattle.simplex_reader.specs.Taking.{taking_by}
use Rattle.simplex_reader.proofs.Counted.{counts_by, counts_none}
use Rattle.simplex_reader.proofs.Listing.{if-ok}
use Rattle.simplex_reader.proofs.pruning.count_records.Goals as goal

pub returns-in-Timer : goal.returns-in-Timer
unfolding taking_by
returns-in-Timer g c = if-ok c.count_at_deadline.result (λ records counts. counts_by _ _ _ _ _ _ _ records c.in-Timer.is counts) c.count_at_deadline.ensures

pub returns-in-Proposal : goal.returns-in-Proposal
unfolding taking_by
returns-in-Proposal g c = if-ok c.count_on_proposal.result (λ records counts. counts_by _ _ _ _ _ _ _ records c.in-Proposal.is counts) c.count_on_proposal.ensures

pub returns-in-Timeout : goal.returns-in-Timeout
unfolding taking_by
returns-in-Timeout g c = if-ok c.count_on_timeout.result (λ records counts. counts_by _ _ _ _ _ _ _ records c.in-Timeout.is (counts _)) c.count_on_timeout.ensures

pub returns-in-Certificate : goal.returns-in-Certificate
unfolding taking_by
returns-in-Certificate g c = if-ok c.count_on_certificate.result (λ records counts. counts_by _ _ _ _ _ _ _ records c.in-Certificate.is counts) c.count_on_certificate.ensures

pub returns-in-Request : goal.returns-in-Request
unfolding taking_by
returns-in-Request g c = if-ok c.count_on_answer.result (λ records counts. counts_by _ _ _ _ _ _ _ records c.in-Request.is counts) c.count_on_answer.ensures

pub returns-in-Nothing : goal.returns-in-Nothing
unfolding taking_by
returns-in-Nothing g c = counts_by _ _ _ _ _ _ _ _ c.in-Nothing.is (counts_none _ _)

pub returns-in-Packet : goal.returns-in-Packet
unfolding taking_by
returns-in-Packet g c = counts_by _ _ _ _ _ _ _ _ c.in-Packet.is (counts_none _ _)

pub returns-in-OtherMail : goal.returns-in-OtherMail
unfolding taking_by
returns-in-OtherMail g c = counts_by _ _ _ _ _ _ _ _ c.in-OtherMail.is (counts_none _ _)

pub returns-in-Floor : goal.returns-in-Floor
unfolding taking_by
returns-in-Floor g c = counts_by _ _ _ _ _ _ _ _ c.in-Floor.is (counts_none _ _)
