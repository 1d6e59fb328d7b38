use Rattle.std.proofs.Common.{arith, not, ◌==◌, refl}
use Rattle.simplex_voter.specs.declared.request.OpenRequest.{OpenRequest}
use Rattle.simplex_voter.specs.Stands.{doing_of}
use Rattle.simplex_voter.proofs.Arriving.{map-opened-others, below-filter, kept-filter, waits-filter}
use Rattle.simplex_voter.proofs.planner.Planner.settle_certify.Goals as goal

pub returns : goal.returns
unfolding doing_of
returns g c = λ made answers doing s. record {
  calls = s.calls;
  state = s.state;
  retains = s.retains;
  does = rw (s.does, c.keep_others.ensures, map-opened-others c.args.number c.args.self.now.certify.items) refl;
  keeps = record {
    below = s.keeps.below;
    proposal_kept = s.keeps.proposal_kept;
    verify_kept = s.keeps.verify_kept;
    certify_kept = rw c.keep_others.ensures (kept-filter _ _ _ s.keeps.certify_kept);
    proposal_below = s.keeps.proposal_below;
    verify_below = s.keeps.verify_below;
    certify_below = rw c.keep_others.ensures (below-filter _ _ _ s.keeps.certify_below);
    counted = s.keeps.counted;
    room = rw c.keep_others.ensures (omega (arith, s.keeps.room, waits-filter (λ (r : OpenRequest). not (r.number == c.args.number)) c.args.self.now.certify.items));
  };
}
