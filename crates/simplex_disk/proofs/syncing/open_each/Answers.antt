use Rattle.std.proofs.Common.{◌≡◌, [], ◌∷◌, ◌++◌, ℕ, length, refl, ap, arith, rules}
use Rattle.simplex_disk.specs.declared.segment.Segment.{Segment}
use Rattle.simplex_disk.specs.Left.{Stands, LeavesFront}
use Rattle.simplex_disk.proofs.Moments.{untouched}
use Rattle.simplex_disk.proofs.Segments.{ok_of}
use Rattle.simplex_disk.proofs.Whole.{moments_no, segment_of}
use Rattle.simplex_disk.proofs.Syncs.{opened_none, next_there, opened_on, opened_all, indexed_open, sections_open, moments_open, is_opened}
use Rattle.simplex_disk.proofs.syncing.open_each.Goals as goal

pub loop-number-init : goal.loop-number-init
loop-number-init g c =
    let es = c.args.index.now.entries in
    let it : c.into_iter-number-iterator.result ≡ es = search rules in
    record {
      so_far = λ H st leaving indexed. record { now = H; stands = st; held = moments_no 0 es leaving H indexed; holds = (indexed, refl, opened_none _ es H it c.len-ordered.ensures.ordered) };
      first = λ told. (told, ap length it);
      ends = search rules;
    }

pub open_segment-requires : goal.open_segment-requires
open_segment-requires g c =
    let es = c.args.index.now.entries in
    let r = c.requires in
    let t = c.loop-number.invariant.so_far r.0 r.1 r.2.0 r.2.1 in
    let e : ℕ × Segment = (c.in-Some.number.now, c.in-Some.segment.now) in
    let next : c.loop-number.number-iterator ≡ e ∷ c.next.new.self = search rules in
    let found = next_there e c.loop-number.number-iterator c.next.new.self es t.now next t.holds.2 in
    (t.now, t.stands, segment_of e.0 es r.2.0 t.now t.holds.0 e.1 found)

pub returns-in_err-open_segment-clause-stands : goal.returns-in_err-open_segment-clause-stands
returns-in_err-open_segment-clause-stands g c = λ H st leaving indexed.
    let es = c.args.index.now.entries in
    let t = c.loop-number.invariant.so_far H st leaving indexed in
    let e : ℕ × Segment = (c.in-Some.number.now, c.in-Some.segment.now) in
    let next : c.loop-number.number-iterator ≡ e ∷ c.next.new.self = search rules in
    let found = next_there e c.loop-number.number-iterator c.next.new.self es t.now next t.holds.2 in
    let r = segment_of e.0 es leaving t.now t.holds.0 e.1 found in
    let u = c.open_segment.ensures.stands t.now t.stands r.0 r.1 r.2 in
    record {
      now = u.now;
      stands = u.stands;
      held = moments_open e.0 e.1 es leaving H t.now u.now t.holds.0 found r.0 r.1 r.2 u.held u.holds.0 t.held t.holds.1;
      holds = (
        indexed_open e.0 e.1 es leaving H t.now u.now t.holds.0 found r.0 r.1 r.2 u.held u.holds.0,
        sections_open e.0 e.1 es leaving H t.now u.now t.holds.0 found r.0 r.1 r.2 u.held u.holds.0 c.len-ordered.ensures.ordered t.holds.1,
        search rules,
      );
    }

pub loop-number-preserved : goal.loop-number-preserved
loop-number-preserved g c = record {
  so_far = λ H st leaving indexed.
      let es = c.args.index.now.entries in
      let t = c.loop-number.invariant.so_far H st leaving indexed in
      let e : ℕ × Segment = (c.in-Some.number.now, c.in-Some.segment.now) in
      let next : c.loop-number.number-iterator ≡ e ∷ c.next.new.self = search rules in
      let found = next_there e c.loop-number.number-iterator c.next.new.self es t.now next t.holds.2 in
      let r = segment_of e.0 es leaving t.now t.holds.0 e.1 found in
      let u = c.open_segment.ensures.stands t.now t.stands r.0 r.1 r.2 in
      let all : Stands e.0 (r.0 ++ r.1) [] u.now = ok_of c.open_segment.result _ c.in_ok-open_segment.was u.holds.1 in
      let opened = is_opened e.0 e.1 es leaving H t.now u.now t.holds.0 found r.0 r.1 r.2 u.held u.holds.0 all in
      record {
        now = u.now;
        stands = u.stands;
        held = moments_open e.0 e.1 es leaving H t.now u.now t.holds.0 found r.0 r.1 r.2 u.held u.holds.0 t.held t.holds.1;
        holds = (
          indexed_open e.0 e.1 es leaving H t.now u.now t.holds.0 found r.0 r.1 r.2 u.held u.holds.0,
          sections_open e.0 e.1 es leaving H t.now u.now t.holds.0 found r.0 r.1 r.2 u.held u.holds.0 c.len-ordered.ensures.ordered t.holds.1,
          opened_on e c.loop-number.number-iterator c.next.new.self es t.now u.now next t.holds.2 (untouched e.0 (LeavesFront e.0 r.0 r.1) t.now u.now u.held) opened,
        );
      };
  first = λ told. absurd (ok_of c.open_segment.result _ c.in_ok-open_segment.was (c.open_segment.ensures.named (c.loop-number.invariant.first told).0));
  ends = search rules;
}

pub returns-clause-stands : goal.returns-clause-stands
returns-clause-stands g c = λ H st leaving indexed.
    let es = c.args.index.now.entries in
    let t = c.loop-number.invariant.so_far H st leaving indexed in
    let none : c.loop-number.number-iterator ≡ [] = c.in-None.ensures.steps.0 in
    record { now = t.now; stands = t.stands; held = t.held; holds = (t.holds.0, t.holds.1, opened_all c.loop-number.number-iterator es t.now none t.holds.2) }

pub returns-clause-named : goal.returns-clause-named
returns-clause-named g c = λ some told.
    let none : c.loop-number.number-iterator ≡ [] = c.in-None.ensures.steps.0 in
    absurd (omega (arith, some, ap length none, (c.loop-number.invariant.first told).1))
