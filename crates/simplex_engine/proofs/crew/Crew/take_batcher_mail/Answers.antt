use Rattle.std.proofs.Common.{◌∙◌}
use Rattle.simplex_engine.proofs.Polls.{recv-none, if-none}
use Rattle.simplex_engine.proofs.crew.Crew.take_batcher_mail.Goals as goal

pub returns-clause-message : goal.returns-clause-message
returns-clause-message g c = λ told parts h. rw (← h.to_batcher) c.recv.ensures.message

pub returns-clause-takes : goal.returns-clause-takes
returns-clause-takes g c = λ told parts h. record {
  voter = record { given = h.voter.given; stands = h.voter.stands; place = h.voter.place };
  batcher = h.batcher;
  resolver = h.resolver;
  to_batcher = rw (← h.to_batcher) c.recv.ensures.after;
  to_voter = h.to_voter;
  to_resolver = h.to_resolver;
  blocked = h.blocked;
}

pub returns-clause-none : goal.returns-clause-none
returns-clause-none g c = if-none c.recv.result (λ e told parts h. record {
  voter = record { given = h.voter.given; stands = h.voter.stands; place = h.voter.place };
  batcher = h.batcher;
  resolver = h.resolver;
  to_batcher = c.recv.ensures.after ∙ e ∙ h.to_batcher;
  to_voter = h.to_voter;
  to_resolver = h.to_resolver;
  blocked = h.blocked;
}) (recv-none _ _ c.recv.result c.recv.ensures.message)
