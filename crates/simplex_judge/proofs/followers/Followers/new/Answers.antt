use Rattle.std.proofs.Common.{◌≡◌, ◌+◌, ◌*◌, ◌/◌, refl, ap, ◌∙◌, length, arith}
use Rattle.std.proofs.lemmas.List.{length_push}
use Rattle.model_run.specs.Kinds.{members_of}
use Rattle.simplex_judge.proofs.Seats.{no-seats, seats-grown, seats-new, seat-member}
use Rattle.simplex_judge.proofs.followers.Followers.new.Goals as goal

pub loop-place-init : goal.loop-place-init
loop-place-init c = rw c.new-seats.ensures.items (refl, no-seats c.args.setup.now)

pub loop-place-preserved : goal.loop-place-preserved
loop-place-preserved c = (
  ap (λ ss. length ss) c.in_ok-push.ensures.items ∙ length_push c.loop-place.seats.items _ ∙ ap (λ n. n + 1) c.loop-place.invariant.0,
  seats-grown c.loop-place.seats.items _ c.args.setup.now _ _ c.in_ok-push.ensures.items c.loop-place.invariant.1 c.in_ok-seat.ensures
      (seat-member (length c.loop-place.seats.items) ∙ ap (λ n. n / 2) c.loop-place.invariant.0),
)

pub returns : goal.returns
returns c =
    let many : length c.loop-place.seats.items ≡ 2 * members_of c.args.setup.now = omega (arith, c.loop-place.invariant.0, c.loop-place-test.false, c.len.ensures) in
    λ setting same. seats-new _ setting c.args.setup.now same many c.loop-place.invariant.1
