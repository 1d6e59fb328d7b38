use Rattle.std.proofs.Common.{◌∙◌}
use Rattle.simplex_engine.proofs.Blocks.{blocked-more}
use Rattle.simplex_engine.proofs.crew.Crew.note_blocks.Goals as goal

pub returns-clause-works : goal.returns-clause-works
returns-clause-works g c = λ told parts h. record {
  voter = record { given = h.voter.given; stands = h.voter.stands; place = h.voter.place };
  batcher = h.batcher;
  resolver = h.resolver;
  to_batcher = h.to_batcher;
  to_voter = h.to_voter;
  to_resolver = h.to_resolver;
  blocked = blocked-more _ _ _ c.args.calls.now parts.blocked (c.as_slice-listed.ensures.value ∙ c.in_ok-members.ensures) c.in_ok-note_each.ensures h.blocked;
}
