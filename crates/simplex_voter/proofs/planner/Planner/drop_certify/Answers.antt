use Rattle.std.proofs.Common.{arith, nat_lt, refl}
use Rattle.model_rules.specs.Pending.{drop_certify}
use Rattle.simplex_voter.specs.declared.request.OpenRequest.{OpenRequest}
use Rattle.simplex_voter.specs.Stands.{doing_of}
use Rattle.simplex_voter.proofs.Arriving.{map-opened-filter, below-filter, kept-filter, waits-filter}
use Rattle.simplex_voter.proofs.planner.Planner.drop_certify.Goals as goal

pub returns : goal.returns
unfolding drop_certify doing_of
returns g c = λ made answers doing s. record {
  calls = s.calls;
  state = s.state;
  retains = s.retains;
  does = rw (s.does, ← c.last_finalized-finalized.ensures made s.calls s.state, c.keep_open.ensures, map-opened-filter c.last_finalized-finalized.result c.args.self.now.certify.items, c.in_ok-drop_final.ensures, c.deref.ensures.value) refl;
  keeps = record {
    below = s.keeps.below;
    proposal_kept = s.keeps.proposal_kept;
    verify_kept = s.keeps.verify_kept;
    certify_kept = rw c.keep_open.ensures (kept-filter _ _ _ s.keeps.certify_kept);
    proposal_below = s.keeps.proposal_below;
    verify_below = s.keeps.verify_below;
    certify_below = rw c.keep_open.ensures (below-filter _ _ _ s.keeps.certify_below);
    counted = s.keeps.counted;
    room = rw c.keep_open.ensures (omega (arith, s.keeps.room, waits-filter (λ (r : OpenRequest). nat_lt c.last_finalized-finalized.result r.view) c.args.self.now.certify.items));
  };
}
