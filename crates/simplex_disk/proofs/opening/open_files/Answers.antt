use Rattle.std.proofs.Common.{ℕ, List, [], get_or, sym, rules, subst, refl}
use Rattle.simplex_disk.specs.Answers.{IsListing}
use Rattle.simplex_disk.specs.Calls.{content}
use Rattle.simplex_disk.specs.Opening.{LeavesSame}
use Rattle.simplex_disk.specs.Chain.{opened}
use Rattle.simplex_disk.specs.Segments.{IsSegment}
use Rattle.simplex_disk.proofs.Moments.{always_join}
use Rattle.simplex_disk.proofs.Segments.{ok_with}
use Rattle.simplex_disk.proofs.Openings.{no_moments, open_none, settled_here, reads_here, moments_here, one_more, all_indexed, all_read, listed_there}
use Rattle.simplex_disk.proofs.opening.open_files.Goals as goal

pub returns-in_err-numbers-clause-stands : goal.returns-in_err-numbers-clause-stands
returns-in_err-numbers-clause-stands g c = λ H st settled. record { now = H; stands = c.files.ensures.stays H st; held = no_moments H settled; holds = search rules }

pub loop-number-init : goal.loop-number-init
loop-number-init g c = record {
  open_so_far = λ H st settled. record { now = H; stands = c.files.ensures.stays H st; held = no_moments H settled; holds = open_none H c.deref-number-items.result.now _ c.new-index.ensures.empty };
  ends = search rules;
}

pub open_file-requires : goal.open_file-requires
open_file-requires g c =
    let H0 = c.requires.0 in
    let settled = c.requires.2 in
    let xs = c.deref-number-items.result.now in
    let i = c.loop-number.number-index in
    let n = get_or xs i 0 in
    let lt = c.loop-number-test.true in
    let listing : IsListing (g.D.Disk.contents c.args.disk.now) xs = subst (λ (l : List ℕ). IsListing (g.D.Disk.contents c.args.disk.now) l) (sym c.deref-number-items.ensures.value) c.in_ok-numbers.ensures.listed in
    let there = listed_there (g.D.Disk.contents c.args.disk.now) xs i listing lt (content n H0) (g.met.D.Disk.reads c.args.disk.now H0 c.requires.1 n) in
    let t = c.loop-number.invariant.open_so_far H0 c.requires.1 settled in
    (t.now, t.stands, settled_here H0 xs i c.loop-number.index.entries t.now settled t.holds n refl lt, (there.0, reads_here H0 xs i c.loop-number.index.entries t.now settled t.holds n refl lt there.0 there.1))

pub returns-in_err-segment-clause-stands : goal.returns-in_err-segment-clause-stands
returns-in_err-segment-clause-stands g c = λ H0 st settled.
    let xs = c.deref-number-items.result.now in
    let i = c.loop-number.number-index in
    let es = c.loop-number.index.entries in
    let n = get_or xs i 0 in
    let lt = c.loop-number-test.true in
    let listing : IsListing (g.D.Disk.contents c.args.disk.now) xs = subst (λ (l : List ℕ). IsListing (g.D.Disk.contents c.args.disk.now) l) (sym c.deref-number-items.ensures.value) c.in_ok-numbers.ensures.listed in
    let there = listed_there (g.D.Disk.contents c.args.disk.now) xs i listing lt (content n H0) (g.met.D.Disk.reads c.args.disk.now H0 st n) in
    let t = c.loop-number.invariant.open_so_far H0 st settled in
    let u = c.open_file.ensures.stands t.now t.stands (settled_here H0 xs i es t.now settled t.holds n refl lt) there.0 (reads_here H0 xs i es t.now settled t.holds n refl lt there.0 there.1) in
    record {
      now = u.now;
      stands = u.stands;
      held = always_join (LeavesSame H0) H0 t.now u.now t.held (moments_here H0 xs i es t.now settled t.holds n refl lt there.0 there.1 u.now u.held);
      holds = search rules;
    }

pub returns-in_err-put-clause-stands : goal.returns-in_err-put-clause-stands
returns-in_err-put-clause-stands g c = λ H0 st settled.
    let xs = c.deref-number-items.result.now in
    let i = c.loop-number.number-index in
    let es = c.loop-number.index.entries in
    let n = get_or xs i 0 in
    let lt = c.loop-number-test.true in
    let listing : IsListing (g.D.Disk.contents c.args.disk.now) xs = subst (λ (l : List ℕ). IsListing (g.D.Disk.contents c.args.disk.now) l) (sym c.deref-number-items.ensures.value) c.in_ok-numbers.ensures.listed in
    let there = listed_there (g.D.Disk.contents c.args.disk.now) xs i listing lt (content n H0) (g.met.D.Disk.reads c.args.disk.now H0 st n) in
    let t = c.loop-number.invariant.open_so_far H0 st settled in
    let u = c.open_file.ensures.stands t.now t.stands (settled_here H0 xs i es t.now settled t.holds n refl lt) there.0 (reads_here H0 xs i es t.now settled t.holds n refl lt there.0 there.1) in
    record {
      now = u.now;
      stands = u.stands;
      held = always_join (LeavesSame H0) H0 t.now u.now t.held (moments_here H0 xs i es t.now settled t.holds n refl lt there.0 there.1 u.now u.held);
      holds = search rules;
    }

pub loop-number-preserved : goal.loop-number-preserved
loop-number-preserved g c = record {
  open_so_far = λ H0 st settled.
      let xs = c.deref-number-items.result.now in
      let i = c.loop-number.number-index in
      let es = c.loop-number.index.entries in
      let n = get_or xs i 0 in
      let lt = c.loop-number-test.true in
      let listing : IsListing (g.D.Disk.contents c.args.disk.now) xs = subst (λ (l : List ℕ). IsListing (g.D.Disk.contents c.args.disk.now) l) (sym c.deref-number-items.ensures.value) c.in_ok-numbers.ensures.listed in
      let there = listed_there (g.D.Disk.contents c.args.disk.now) xs i listing lt (content n H0) (g.met.D.Disk.reads c.args.disk.now H0 st n) in
      let t = c.loop-number.invariant.open_so_far H0 st settled in
      let u = c.open_file.ensures.stands t.now t.stands (settled_here H0 xs i es t.now settled t.holds n refl lt) there.0 (reads_here H0 xs i es t.now settled t.holds n refl lt there.0 there.1) in
      let seg : IsSegment n c.in_ok-segment.segment (opened there.0) [] u.now = ok_with _ c.open_file.result _ c.in_ok-segment.was u.holds in
      record {
        now = u.now;
        stands = u.stands;
        held = always_join (LeavesSame H0) H0 t.now u.now t.held (moments_here H0 xs i es t.now settled t.holds n refl lt there.0 there.1 u.now u.held);
        holds = one_more H0 xs i es t.now settled t.holds n refl lt there.0 there.1 u.now u.held c.in_ok-segment.segment seg.kept seg listing.rising _ c.in_ok-put.ensures.ok;
      };
  ends = search rules;
}

pub returns-clause-stands : goal.returns-clause-stands
returns-clause-stands g c = λ H0 st settled.
    let xs = c.deref-number-items.result.now in
    let i = c.loop-number.number-index in
    let es = c.loop-number.index.entries in
    let listing : IsListing (g.D.Disk.contents c.args.disk.now) xs = subst (λ (l : List ℕ). IsListing (g.D.Disk.contents c.args.disk.now) l) (sym c.deref-number-items.ensures.value) c.in_ok-numbers.ensures.listed in
    let t = c.loop-number.invariant.open_so_far H0 st settled in
    let law = λ (n : ℕ). g.met.D.Disk.reads c.args.disk.now H0 st n in
    record {
      now = t.now;
      stands = t.stands;
      held = t.held;
      holds = (
        all_indexed H0 (g.D.Disk.contents c.args.disk.now) xs i es t.now settled t.holds listing law c.loop-number-test.false,
        all_read H0 (g.D.Disk.contents c.args.disk.now) xs i es t.now settled t.holds listing law c.loop-number-test.false,
      );
    }
