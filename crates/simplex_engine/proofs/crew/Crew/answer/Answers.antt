use Rattle.std.proofs.Common.{sym, ◌∙◌, ◌∷◌}
use Rattle.model_steps.specs.VoterLife.{Answered}
use Rattle.simplex_engine.proofs.Places.{place-more, place-refused}
use Rattle.simplex_engine.proofs.Voters.{either-takes, either-answers}
use Rattle.simplex_engine.proofs.crew.Crew.answer.Goals as goal

pub returns-clause-taken : goal.returns-clause-taken
returns-clause-taken g c = λ told parts h. rw (← h.voter.place) (either-answers told c.args.self.now _ _ c.answer.ensures.answer _ _ h.voter.stands)

pub returns-clause-stands : goal.returns-clause-stands
returns-clause-stands g c = λ e told parts h. record {
  voter = record {
    given = Answered c.args.request c.args.answer ∷ h.voter.given;
    stands = either-takes told c.args.self.now _ _ c.answer.ensures.stands c.answer.ensures.stands_over _ _ h.voter.stands;
    place = place-more _ _ _ _ h.voter.place;
  };
  batcher = h.batcher;
  resolver = h.resolver;
  to_batcher = h.to_batcher;
  to_voter = h.to_voter;
  to_resolver = h.to_resolver;
  blocked = h.blocked;
}

pub returns-clause-stays : goal.returns-clause-stays
returns-clause-stays g c = λ e told parts h. record {
  voter = record {
    given = Answered c.args.request c.args.answer ∷ h.voter.given;
    stands = either-takes told c.args.self.now _ _ c.answer.ensures.stands c.answer.ensures.stands_over _ _ h.voter.stands;
    place = place-refused _ _ _ _ (sym (either-answers told c.args.self.now _ _ c.answer.ensures.answer _ _ h.voter.stands) ∙ e) ∙ h.voter.place;
  };
  batcher = h.batcher;
  resolver = h.resolver;
  to_batcher = h.to_batcher;
  to_voter = h.to_voter;
  to_resolver = h.to_resolver;
  blocked = h.blocked;
}
