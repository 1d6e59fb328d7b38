use Rattle.std.proofs.Common.{◌≡◌, [], ◌++◌, Some, None, rules, refl}
use Rattle.std.specs.Ordering.{nat_cmp}
use Rattle.std.specs.Map.{lookup}
use Rattle.std.specs.BTreeMap.{is_at}
use Rattle.simplex_disk.specs.Segments.{IsSegment}
use Rattle.simplex_disk.proofs.Segments.{ok_of}
use Rattle.simplex_disk.proofs.Whole.{segment_of, moments_there, indexed_there, synced_there, same_there, sync_absent}
use Rattle.simplex_disk.proofs.index.sync_at.Goals as goal

pub returns-in_default-clause-goes : goal.returns-in_default-clause-goes
returns-in_default-clause-goes g c = λ leaving H st indexed.
    let n = c.args.number in
    let es = c.args.index.now.entries in
    let absent : lookup (is_at (nat_cmp n)) es ≡ None = search rules in
    let same : c.get_mut.follows.lender-at-none.entries ≡ es = rw c.get_mut.follows.holds-at-none refl in
    sync_absent n es leaving H indexed absent (g.met.D.Disk.stays c.args.disk.now H st n) _ same c.sync.result (g.D.Disk.StandsFor c.args.disk.now) (g.D.Disk.StandsFor c.sync.new.self) st c.sync.ensures.ok c.sync.ensures.err

pub open_segment-requires : goal.open_segment-requires
open_segment-requires g c =
    let n = c.args.number in
    let es = c.args.index.now.entries in
    let v = c.in-Some.segment.now in
    let found : lookup (is_at (nat_cmp n)) es ≡ Some v = search rules in
    let r = c.requires.2 in
    (c.requires.0, c.requires.1, segment_of n es r.0 c.requires.0 r.1 v found)

pub returns-in_err-open_segment-clause-goes : goal.returns-in_err-open_segment-clause-goes
returns-in_err-open_segment-clause-goes g c = λ leaving H st indexed.
    let n = c.args.number in
    let es = c.args.index.now.entries in
    let v = c.in-Some.segment.now in
    let found : lookup (is_at (nat_cmp n)) es ≡ Some v = search rules in
    let is = (c.get_mut.follows.holds v).0 in
    let r = segment_of n es leaving H indexed v found in
    let t = c.open_segment.ensures.stands H st r.0 r.1 r.2 in
    let now : IsSegment n v r.0 r.1 t.now = record { stands = t.holds.0; kept = r.2.kept } in
    let same = same_there n es leaving H indexed v found t.now r.0 r.1 r.2 t.held _ v is c.get_mut.ensures.ordered now in
    record {
      now = t.now;
      stands = t.stands;
      held = moments_there n es leaving H indexed v found t.now r.0 r.1 r.2 t.held;
      holds = (indexed_there n es leaving H indexed v found t.now r.0 r.1 r.2 t.held _ v is r.0 r.1 now, search rules);
    }

pub returns-clause-goes : goal.returns-clause-goes
returns-clause-goes g c = λ leaving H st indexed.
    let n = c.args.number in
    let es = c.args.index.now.entries in
    let v = c.in-Some.segment.now in
    let w = c.count_synced.new.self in
    let found : lookup (is_at (nat_cmp n)) es ≡ Some v = search rules in
    let is = (c.get_mut.follows.holds w).0 in
    let r = segment_of n es leaving H indexed v found in
    let t = c.open_segment.ensures.stands H st r.0 r.1 r.2 in
    let now : IsSegment n w (r.0 ++ r.1) [] t.now = record { stands = ok_of c.open_segment.result _ c.in_ok-open_segment.was t.holds.1; kept = c.count_synced.ensures r.0 r.1 r.2.kept } in
    record {
      now = t.now;
      stands = t.stands;
      held = moments_there n es leaving H indexed v found t.now r.0 r.1 r.2 t.held;
      holds = (indexed_there n es leaving H indexed v found t.now r.0 r.1 r.2 t.held _ w is (r.0 ++ r.1) [] now, synced_there n es leaving H indexed v found t.now r.0 r.1 r.2 t.held _ w is c.get_mut.ensures.ordered now);
    }
