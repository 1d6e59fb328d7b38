use Rattle.std.proofs.Common.{◌≡◌, Some, rules, inl}
use Rattle.std.specs.Ordering.{nat_cmp}
use Rattle.std.specs.Map.{lookup}
use Rattle.std.specs.BTreeMap.{is_at}
use Rattle.simplex_disk.proofs.Segments.{on_weaker, err_with}
use Rattle.simplex_disk.proofs.Whole.{segment_of, moments_there, appended_or}
use Rattle.simplex_disk.proofs.index.append_bytes.Goals as goal

pub append_record-requires : goal.append_record-requires
append_record-requires g c =
    let n = c.args.number in
    let es = c.args.index.now.entries in
    let v = c.in-Some.segment.now in
    let found : lookup (is_at (nat_cmp n)) es ≡ Some v = search rules in
    (c.requires.0, c.requires.1, segment_of n es c.args.leaving.now c.requires.0 c.requires.2 v found)

pub returns-in-Some-clause-goes : goal.returns-in-Some-clause-goes
returns-in-Some-clause-goes g c = λ a reads spelled H st indexed.
    let n = c.args.number in
    let es = c.args.index.now.entries in
    let leaving = c.args.leaving.now in
    let v = c.in-Some.segment.now in
    let w = c.append_record.new.segment in
    let found : lookup (is_at (nat_cmp n)) es ≡ Some v = search rules in
    let is = (c.get_mut.follows.holds w).0 in
    let r = segment_of n es leaving H indexed v found in
    let t = c.append_record.ensures.stands H st r.0 r.1 r.2 in
    record {
      now = t.now;
      stands = t.stands;
      held = moments_there n es leaving H indexed v found t.now r.0 r.1 r.2 t.held;
      holds = appended_or n es leaving H indexed v found t.now r.0 r.1 r.2 t.held _ w is c.get_mut.ensures.ordered c.append_record.result a
          (on_weaker c.append_record.result (λ more. more a reads spelled) t.holds.1) (err_with c.append_record.result (λ kept. record { stands = t.holds.0; kept = kept }) t.holds.2);
    }

pub returns-in-Some-clause-less : goal.returns-in-Some-clause-less
returns-in-Some-clause-less g c = λ n leaves. inl leaves
