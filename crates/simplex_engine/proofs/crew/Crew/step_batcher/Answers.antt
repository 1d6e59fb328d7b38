use Rattle.std.proofs.Common.{ap, ◌∷◌}
use Rattle.simplex_mailbox.specs.Mail.{all_enqueued}
use Rattle.simplex_mailbox.proofs.Holding.{held-posted}
use Rattle.simplex_engine.proofs.crew.Crew.step_batcher.Goals as goal

pub returns-then-is_cut-clause-stands : goal.returns-then-is_cut-clause-stands
unfolding all_enqueued
returns-then-is_cut-clause-stands g c = λ told parts h.
    let t = rw c.as_slice.ensures at (c.in_ok-tell_blocks.ensures.works told (record parts { timed = record { input = c.args.input; now = c.args.now } ∷ parts.timed }) (record {
      voter = record { given = h.voter.given; stands = h.voter.stands; place = h.voter.place };
      batcher = c.in_ok-step.ensures.stands _ _ h.batcher;
      resolver = h.resolver;
      to_batcher = h.to_batcher;
      to_voter = h.to_voter;
      to_resolver = h.to_resolver;
      blocked = h.blocked;
    })) in
    record {
      voter = t.voter;
      batcher = t.batcher;
      resolver = t.resolver;
      to_batcher = t.to_batcher;
      to_voter = rw (c.cut_short-is_cut.ensures.alone c.if-is_cut.true) t.to_voter;
      to_resolver = t.to_resolver;
      blocked = t.blocked;
    }

pub returns-then-is_cut-clause-gives : goal.returns-then-is_cut-clause-gives
returns-then-is_cut-clause-gives g c = λ told parts h.
    let e = rw (c.in_ok-step.ensures.out _ _ h.batcher) at (c.cut_short-is_cut.ensures.cut c.if-is_cut.true) in
    (ap (λ p. p.0) e, ap (λ p. p.1) e)

pub returns-clause-stands : goal.returns-clause-stands
returns-clause-stands g c = λ told parts h.
    let held = rw c.new-held.ensures at (held-posted _ _ _ c.in_ok-step.ensures.voter) in
    let t = rw c.as_slice.ensures at (c.in_ok-tell_blocks.ensures.works told (record parts { timed = record { input = c.args.input; now = c.args.now } ∷ parts.timed }) (record {
      voter = record { given = h.voter.given; stands = h.voter.stands; place = h.voter.place };
      batcher = c.in_ok-step.ensures.stands _ _ h.batcher;
      resolver = h.resolver;
      to_batcher = h.to_batcher;
      to_voter = h.to_voter;
      to_resolver = h.to_resolver;
      blocked = h.blocked;
    })) in
    record {
      voter = record { given = t.voter.given; stands = t.voter.stands; place = t.voter.place };
      batcher = t.batcher;
      resolver = t.resolver;
      to_batcher = t.to_batcher;
      to_voter = rw (← t.to_voter, c.cut_short-is_cut.ensures.same c.if-is_cut.false, ← held) c.in_ok-put_into.ensures;
      to_resolver = t.to_resolver;
      blocked = t.blocked;
    }

pub returns-clause-gives : goal.returns-clause-gives
returns-clause-gives g c = λ told parts h.
    let e = rw (c.in_ok-step.ensures.out _ _ h.batcher) at (c.cut_short-is_cut.ensures.whole c.if-is_cut.false) in
    (ap (λ p. p.0) e, ap (λ p. p.1) e)
