use Rattle.std.proofs.Common.{◌≡◌, ℕ, List, Some, None, rules, subst, sym, refl}
use Rattle.std.specs.Ordering.{nat_cmp}
use Rattle.std.specs.Map.{lookup}
use Rattle.std.specs.BTreeMap.{is_at}
use Rattle.simplex_disk.specs.declared.segment.Segment.{Segment}
use Rattle.simplex_disk.specs.Contents.{Any}
use Rattle.simplex_disk.specs.Index.{IsIndexed}
use Rattle.simplex_disk.specs.Stopping.{StopsAt}
use Rattle.simplex_disk.proofs.Moments.{none_of, untouched}
use Rattle.simplex_disk.proofs.Whole.{segment_of, not_none}
use Rattle.simplex_disk.proofs.Crashes.{settled_other, indexed_stopped, stops_at}
use Rattle.simplex_disk.proofs.stopping.crash_at.Goals as goal

pub crash_segment-requires : goal.crash_segment-requires
crash_segment-requires g c =
    let n = c.args.number in
    let es = c.args.index.now.entries in
    let v = c.in-Some.segment.now in
    let found : lookup (is_at (nat_cmp n)) es ≡ Some v = search rules in
    let r = c.requires in
    let s = segment_of n es r.2.0 r.0 r.2.1 v found in
    (r.0, r.1, (s.0, s.1, s.2, r.2.2.only n))

pub returns-in_default-clause-stands : goal.returns-in_default-clause-stands
returns-in_default-clause-stands g c = λ H st leaving indexed settled.
    let n = c.args.number in
    let es = c.args.index.now.entries in
    let absent : lookup (is_at (nat_cmp n)) es ≡ None = search rules in
    let same : c.get_mut.follows.lender-at-none.entries ≡ es = rw c.get_mut.follows.holds-at-none refl in
    let stops : StopsAt c.args.keep n H H es c.get_mut.follows.lender-at-none.entries = λ v there. absurd (not_none (lookup (is_at (nat_cmp n)) es) v there absent) in
    record { now = H; stands = st; held = none_of n Any H tt; holds = (subst (λ (l : List (ℕ × Segment)). IsIndexed l leaving H) (sym same) indexed, settled, stops) }

pub returns-clause-stands : goal.returns-clause-stands
returns-clause-stands g c = λ H st leaving indexed settled.
    let n = c.args.number in
    let es = c.args.index.now.entries in
    let v = c.in-Some.segment.now in
    let w = c.crash_segment.new.segment in
    let found : lookup (is_at (nat_cmp n)) es ≡ Some v = search rules in
    let is = (c.get_mut.follows.holds w).0 in
    let s = segment_of n es leaving H indexed v found in
    let t = c.crash_segment.ensures.stands H st s.0 s.1 s.2 (settled.only n) in
    record {
      now = t.now;
      stands = t.stands;
      held = t.held;
      holds = (
        indexed_stopped n c.args.keep es leaving H t.now indexed v w found s.0 s.1 s.2 t.held _ is t.holds.0,
        settled_other n H t.now settled (untouched n Any H t.now t.held) t.holds.1,
        stops_at n c.args.keep es leaving H t.now indexed v w found s.0 s.1 s.2 t.held _ is t.holds.0,
      );
    }
