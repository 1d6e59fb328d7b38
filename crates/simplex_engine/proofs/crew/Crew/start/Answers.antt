use Rattle.std.proofs.Common.{refl, ap, true, false, [], ◌∷◌}
use Rattle.std.specs.List.{filter_map}
use Rattle.simplex_mailbox.specs.Mail.{all_enqueued}
use Rattle.simplex_messages.specs.Policies.{batcher_handled, resolver_handled}
use Rattle.model_steps.specs.VoterLife.{Started, start_given}
use Rattle.model_steps.specs.Engine.{begun, for_batcher, for_resolver}
use Rattle.simplex_engine.specs.declared.boxes.Boxes.{Boxes}
use Rattle.simplex_engine.specs.Parts.{Parts, first_parts}
use Rattle.simplex_engine.specs.Stands.{CrewStands}
use Rattle.simplex_engine.proofs.VoterMail.{start-quiet}
use Rattle.simplex_engine.proofs.Blocks.{blocked-first}
use Rattle.simplex_engine.proofs.More.{more-begun}
use Rattle.simplex_engine.proofs.crew.Crew.start.Goals as goal

pub returns-clause-stands : goal.returns-clause-stands
unfolding CrewStands begun
returns-clause-stands g c = λ made h.
    let now = c.args.now in
    let stop = c.args.stop.now in
    let out = c.start.new.out in
    let parts : Parts = first_parts made now in
    rw (more-begun made now stop (start_given (made.voter now) [] now stop) (start-quiet _ _ _ _))
    (rw (← (c.in_ok-outcome.ensures.does.gives _ h.voter).1) (rw c.as_slice.ensures at (c.in_ok-tell_blocks.ensures.works true (record parts {
      given = Started now stop ∷ [];
      to_batcher = all_enqueued batcher_handled parts.to_batcher (filter_map for_batcher out.handed);
      to_resolver = all_enqueued resolver_handled parts.to_resolver (filter_map for_resolver out.handed);
    }) (record {
      voter = record { given = Started now stop ∷ []; stands = c.in_ok-outcome.ensures.does.stands _ h.voter; place = refl };
      batcher = h.batcher;
      resolver = h.resolver;
      to_batcher = rw (ap (λ (boxes : Boxes). boxes.batcher) h.boxes) at (c.posted_are_enqueued.ensures _ _ _ c.in_ok-outcome.ensures.batcher);
      to_voter = ap (λ (boxes : Boxes). boxes.voter) h.boxes;
      to_resolver = rw (ap (λ (boxes : Boxes). boxes.resolver) h.boxes) at (c.posted_are_enqueued-2.ensures _ _ _ c.in_ok-outcome.ensures.resolver);
      blocked = blocked-first _ h.blocked;
    }))))

pub returns-clause-gives : goal.returns-clause-gives
unfolding begun
returns-clause-gives g c = λ made h. c.in_ok-outcome.ensures.does.gives _ h.voter

pub returns-clause-over : goal.returns-clause-over
unfolding CrewStands begun
returns-clause-over g c =
    let o = c.in_ok-outcome.ensures.does.over in
    let now = c.args.now in
    let out = c.start.new.out in
    record {
      turned = o.turned;
      becomes = o.becomes;
      gives = λ made h. o.gives _ h.voter;
      leaves = λ made h. rw c.in_ok-tell_blocks.ensures.voter (o.leaves _ h.voter);
      takes = λ going made h.
          let parts : Parts = first_parts made now in
          rw (more-begun made now o.turned (start_given (made.voter now) [] now o.turned) (start-quiet _ _ _ _))
          (rw (← (o.gives _ h.voter).1) (rw c.as_slice.ensures at (c.in_ok-tell_blocks.ensures.works false (record parts {
            given = Started now o.turned ∷ [];
            to_batcher = all_enqueued batcher_handled parts.to_batcher (filter_map for_batcher out.handed);
            to_resolver = all_enqueued resolver_handled parts.to_resolver (filter_map for_resolver out.handed);
          }) (record {
            voter = record { given = Started now o.turned ∷ []; stands = o.stands going _ h.voter; place = refl };
            batcher = h.batcher;
            resolver = h.resolver;
            to_batcher = rw (ap (λ (boxes : Boxes). boxes.batcher) h.boxes) at (c.posted_are_enqueued.ensures _ _ _ c.in_ok-outcome.ensures.batcher);
            to_voter = ap (λ (boxes : Boxes). boxes.voter) h.boxes;
            to_resolver = rw (ap (λ (boxes : Boxes). boxes.resolver) h.boxes) at (c.posted_are_enqueued-2.ensures _ _ _ c.in_ok-outcome.ensures.resolver);
            blocked = blocked-first _ h.blocked;
          }))));
    }

pub returns-clause-faults : goal.returns-clause-faults
returns-clause-faults g c = rw c.in_ok-tell_blocks.ensures.voter c.in_ok-outcome.ensures.does.faults
