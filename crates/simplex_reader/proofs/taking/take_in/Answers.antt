use Rattle.simplex_reader.specs.Taking.{taking_by}
use Rattle.simplex_reader.proofs.Acting.{acts_by, acts_none}
use Rattle.simplex_reader.proofs.Listing.{if-ok}
use Rattle.simplex_reader.proofs.taking.take_in.Goals as goal

pub returns-in-Timer : goal.returns-in-Timer
unfolding taking_by
returns-in-Timer g c = if-ok c.take_deadline.result (λ due acts. acts_by _ _ _ _ _ _ _ _ due c.in-Timer.is acts) c.take_deadline.ensures

pub returns-in-Proposal : goal.returns-in-Proposal
unfolding taking_by
returns-in-Proposal g c = if-ok c.take_proposal.result (λ due acts. acts_by _ _ _ _ _ _ _ _ due c.in-Proposal.is acts) c.take_proposal.ensures

pub returns-in-Timeout : goal.returns-in-Timeout
unfolding taking_by
returns-in-Timeout g c = if-ok c.take_timeout.result (λ due acts. acts_by _ _ _ _ _ _ _ _ due c.in-Timeout.is (acts _)) c.take_timeout.ensures

pub returns-in-Certificate : goal.returns-in-Certificate
unfolding taking_by
returns-in-Certificate g c = if-ok c.take_certificate.result (λ due acts. acts_by _ _ _ _ _ _ _ _ due c.in-Certificate.is acts) c.take_certificate.ensures

pub returns-in-Request : goal.returns-in-Request
unfolding taking_by
returns-in-Request g c = if-ok c.take_answer.result (λ due acts. acts_by _ _ _ _ _ _ _ _ due c.in-Request.is acts) c.take_answer.ensures

pub returns-in-Nothing : goal.returns-in-Nothing
unfolding taking_by
returns-in-Nothing g c = acts_by _ _ _ _ _ _ _ _ _ c.in-Nothing.is (acts_none _ _ _ _ c.nothing_due.ensures)

pub returns-in-Packet : goal.returns-in-Packet
unfolding taking_by
returns-in-Packet g c = acts_by _ _ _ _ _ _ _ _ _ c.in-Packet.is (acts_none _ _ _ _ c.nothing_due-in-Packet.ensures)

pub returns-in-OtherMail : goal.returns-in-OtherMail
unfolding taking_by
returns-in-OtherMail g c = acts_by _ _ _ _ _ _ _ _ _ c.in-OtherMail.is (acts_none _ _ _ _ c.nothing_due-in-OtherMail.ensures)

pub returns-in-Floor : goal.returns-in-Floor
unfolding taking_by
returns-in-Floor g c = acts_by _ _ _ _ _ _ _ _ _ c.in-Floor.is (acts_none _ _ _ _ c.nothing_due-in-Floor.ensures)
