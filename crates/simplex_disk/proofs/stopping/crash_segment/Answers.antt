use Rattle.std.proofs.Common.{◌≡◌, ◌∙◌, ◌≤◌, ◌+◌, ◌++◌, min, ℕ, List, [], length, take, subst, ap, arith, refl}
use Rattle.std.proofs.lemmas.List.{length-take}
use Rattle.simplex_wire.specs.declared.artifact.Artifact.{Artifact}
use Rattle.simplex_disk.specs.declared.segment.Segment.{Segment}
use Rattle.simplex_disk.specs.Calls.{Call}
use Rattle.simplex_disk.specs.Chain.{total}
use Rattle.simplex_disk.specs.Contents.{Any}
use Rattle.simplex_disk.specs.Segments.{IsSegment}
use Rattle.simplex_disk.specs.Opening.{IsSettledAt}
use Rattle.simplex_disk.specs.Stopping.{WaitsFirst, OpensFirst}
use Rattle.simplex_disk.proofs.Gates.{length-places}
use Rattle.simplex_disk.proofs.Moments.{join_of}
use Rattle.simplex_disk.proofs.Segments.{IsKept-few}
use Rattle.simplex_disk.proofs.Stops.{IsSegment-stopped, kept_first, least_take}
use Rattle.simplex_disk.proofs.stopping.crash_segment.Goals as goal

-- the first gates of a segment
waits : (n : ℕ) (segment : Segment) (S P : List Artifact) (H : List Call) → IsSegment n segment S P H → IsSettledAt n H → (gates : List ℕ) → gates ≡ segment.gates.items → (k : ℕ) → k ≤ length gates → WaitsFirst n S P (take k gates) H
waits n segment S P H is settled gates same k few = record {
  content = is.stands.content;
  settled = settled;
  places = kept_first k P gates (total S) (same ∙ is.kept.gates) few (take k gates) refl;
  few = omega (arith, length-take k gates, few, ap length (same ∙ is.kept.gates), length-places (total S) P);
}

opens : (n : ℕ) (S P : List Artifact) (gates : List ℕ) (k : ℕ) (H : List Call) → k ≤ length gates → OpensFirst n S P (length (take k gates)) H → OpensFirst n S P k H
opens n S P gates k H few o = subst (λ (j : ℕ). OpensFirst n S P j H) (let e : length (take k gates) ≡ k = omega (arith, length-take k gates, few) in e) o

pub leave_open-requires : goal.leave_open-requires
leave_open-requires g c =
    let r = c.requires in
    let few : c.min-kept.result ≤ length c.deref.result.now = omega (arith, c.min-kept.ensures, c.len.ensures, c.deref.ensures.len) in
    (r.0, r.1, (r.2.0, r.2.1, waits c.args.file c.args.segment.now r.2.0 r.2.1 r.0 r.2.2 r.2.3 c.deref.result.now c.deref.ensures.value c.min-kept.result few))

pub close_next-segment-requires : goal.close_next-segment-requires
close_next-segment-requires g c =
    let r = c.requires in
    let n = c.args.file in
    let S = r.2.0 in
    let P = r.2.1 in
    let few : c.min-kept.result ≤ length c.deref.result.now = omega (arith, c.min-kept.ensures, c.len.ensures, c.deref.ensures.len) in
    let w = waits n c.args.segment.now S P r.0 r.2.2 r.2.3 c.deref.result.now c.deref.ensures.value c.min-kept.result few in
    let t = c.leave_open.ensures.stands r.0 r.1 S P w in
    (t.now, t.stands, (S, P, opens n S P c.deref.result.now c.min-kept.result t.now few t.holds, c.deref-2.ensures.value ∙ r.2.2.kept.gates, r.2.2.kept.end))

pub overflow_add-segment : goal.overflow_add-segment
overflow_add-segment g c =
    let r = c.requires in
    let few = IsKept-few c.args.segment.now r.2.0 r.2.1 r.2.2.kept in
    let fits = c.fits-segment in
    omega (arith, few, c.min-kept.ensures, c.len.ensures, c.deref.ensures.len, ap length c.deref.ensures.value, c.fits-segment)

pub returns-clause-stands : goal.returns-clause-stands
returns-clause-stands g c = λ H st S P is settled.
    let n = c.args.file in
    let k = c.min-kept.result in
    let few : k ≤ length c.deref.result.now = omega (arith, c.min-kept.ensures, c.len.ensures, c.deref.ensures.len) in
    let w = waits n c.args.segment.now S P H is settled c.deref.result.now c.deref.ensures.value k few in
    let t = c.leave_open.ensures.stands H st S P w in
    let u = c.close_next-segment.ensures.stands t.now t.stands S P (opens n S P c.deref.result.now k t.now few t.holds) (c.deref-2.ensures.value ∙ is.kept.gates) is.kept.end in
    let gates : length c.deref.result.now ≡ length P = ap length (c.deref.ensures.value ∙ is.kept.gates) ∙ length-places (total S) P in
    let least : k ≡ min c.args.keep (length P) = omega (arith, c.min-kept.ensures, c.len.ensures, c.deref.ensures.len, gates) in
    let same : take k P ≡ take c.args.keep P = ap (λ (j : ℕ). take j P) least ∙ least_take c.args.keep P in
    let new : Segment = record { end = c.close_next-segment.result; synced = c.args.segment.now.synced + k; gates = c.clear.new.self } in
    let seg : IsSegment n new (S ++ take k P) [] u.now =
    IsSegment-stopped n c.args.segment.now new S P k u.now is.kept u.holds.0 (omega (arith, few, gates)) refl c.clear.ensures.items u.holds.1 in
    record {
      now = u.now;
      stands = u.stands;
      held = join_of n Any H t.now u.now t.held u.held;
      holds = (subst (λ (l : List Artifact). IsSegment n new (S ++ l) [] u.now) same seg, u.holds.0.settled);
    }
