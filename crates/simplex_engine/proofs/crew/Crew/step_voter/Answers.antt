use Rattle.std.proofs.Common.{true, false, ◌∷◌}
use Rattle.std.specs.List.{filter_map}
use Rattle.simplex_mailbox.specs.Mail.{all_enqueued}
use Rattle.simplex_messages.specs.Policies.{batcher_handled, resolver_handled}
use Rattle.model_steps.specs.VoterLife.{Stepped}
use Rattle.model_steps.specs.Engine.{for_batcher, for_resolver}
use Rattle.simplex_engine.proofs.Places.{place-more, step-at, left-at}
use Rattle.simplex_engine.proofs.crew.Crew.step_voter.Goals as goal

pub returns-clause-stands : goal.returns-clause-stands
returns-clause-stands g c = λ parts h.
    let out = c.step.new.out in
    rw c.as_slice.ensures at (c.in_ok-tell_blocks.ensures.works true (record parts {
      given = Stepped c.args.input c.args.now c.args.stop.now ∷ parts.given;
      to_batcher = all_enqueued batcher_handled parts.to_batcher (filter_map for_batcher out.handed);
      to_resolver = all_enqueued resolver_handled parts.to_resolver (filter_map for_resolver out.handed);
    }) (record {
      voter = record {
        given = Stepped c.args.input c.args.now c.args.stop.now ∷ h.voter.given;
        stands = c.in_ok-outcome.ensures.does.stands _ _ h.voter.stands;
        place = place-more _ _ _ _ h.voter.place;
      };
      batcher = h.batcher;
      resolver = h.resolver;
      to_batcher = rw (← h.to_batcher) (c.posted_are_enqueued.ensures _ _ _ c.in_ok-outcome.ensures.batcher);
      to_voter = h.to_voter;
      to_resolver = rw (← h.to_resolver) (c.posted_are_enqueued-2.ensures _ _ _ c.in_ok-outcome.ensures.resolver);
      blocked = h.blocked;
    }))

pub returns-clause-gives : goal.returns-clause-gives
returns-clause-gives g c = λ parts h.
    rw (← step-at parts.voter h.voter.given parts.given c.args.input c.args.now c.args.stop.now h.voter.place)
    (c.in_ok-outcome.ensures.does.gives _ _ h.voter.stands)

pub returns-clause-over : goal.returns-clause-over
returns-clause-over g c =
    let o = c.in_ok-outcome.ensures.does.over in
    let out = c.step.new.out in
    record {
      turned = o.turned;
      becomes = o.becomes;
      ends = λ parts h.
          rw (← step-at parts.voter h.voter.given parts.given c.args.input c.args.now o.turned h.voter.place) (o.gives _ _ h.voter.stands);
      leaves = λ parts h.
          rw (c.in_ok-tell_blocks.ensures.voter, ← left-at parts.voter h.voter.given parts.given c.args.input c.args.now c.args.stop.now o.turned h.voter.place) (o.leaves _ _ h.voter.stands);
      works = λ going parts h.
          rw c.as_slice.ensures at (c.in_ok-tell_blocks.ensures.works false (record parts {
            given = Stepped c.args.input c.args.now o.turned ∷ parts.given;
            to_batcher = all_enqueued batcher_handled parts.to_batcher (filter_map for_batcher out.handed);
            to_resolver = all_enqueued resolver_handled parts.to_resolver (filter_map for_resolver out.handed);
          }) (record {
            voter = record {
              given = Stepped c.args.input c.args.now o.turned ∷ h.voter.given;
              stands = o.stands going _ _ h.voter.stands;
              place = place-more _ _ _ _ h.voter.place;
            };
            batcher = h.batcher;
            resolver = h.resolver;
            to_batcher = rw (← h.to_batcher) (c.posted_are_enqueued.ensures _ _ _ c.in_ok-outcome.ensures.batcher);
            to_voter = h.to_voter;
            to_resolver = rw (← h.to_resolver) (c.posted_are_enqueued-2.ensures _ _ _ c.in_ok-outcome.ensures.resolver);
            blocked = h.blocked;
          }));
    }

pub returns-clause-faults : goal.returns-clause-faults
returns-clause-faults g c = rw c.in_ok-tell_blocks.ensures.voter c.in_ok-outcome.ensures.does.faults
