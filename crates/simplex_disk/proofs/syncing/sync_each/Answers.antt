use Rattle.std.proofs.Common.{◌≡◌, ◌∙◌, [], ◌∷◌, ℕ, List, length, refl, ap, arith, rules}
use Rattle.simplex_journal.specs.Journal.{all_synced}
use Rattle.simplex_disk.specs.declared.segment.Segment.{Segment}
use Rattle.simplex_disk.specs.Calls.{content}
use Rattle.simplex_disk.specs.Index.{sections_at}
use Rattle.simplex_disk.specs.Syncing.{AreOpened}
use Rattle.simplex_disk.proofs.Segments.{ok_of}
use Rattle.simplex_disk.proofs.Whole.{moments_no}
use Rattle.simplex_disk.proofs.Syncs.{synced_none, indexed_counted, sections_counted}
use Rattle.simplex_disk.proofs.syncing.sync_each.Goals as goal

-- no entry
empty : (es : List (ℕ × Segment)) → length es ≡ 0 → es ≡ []
empty [] is = refl
empty (e ∷ es) is = absurd (omega (arith, is))

pub returns-in_err-files-clause-goes : goal.returns-in_err-files-clause-goes
returns-in_err-files-clause-goes g c = λ leaving H st indexed.
    let es = c.args.index.now.entries in
    let same : sections_at H es ≡ sections_at H es = refl in
    record { now = H; stands = c.files.ensures.stays H st; held = moments_no 0 es leaving H indexed; holds = (indexed, search rules) }

pub returns-then-is_empty-clause-goes : goal.returns-then-is_empty-clause-goes
returns-then-is_empty-clause-goes g c = λ leaving H st indexed.
    let es = c.args.index.now.entries in
    let none : es ≡ [] = empty es (c.is_empty.ensures.0 c.if-is_empty.true) in
    record { now = H; stands = c.files.ensures.stays H st; held = moments_no 0 es leaving H indexed; holds = (indexed, synced_none (λ n. content n H) (λ n. content n H) es none) }

pub returns-in_err-open_each-clause-goes : goal.returns-in_err-open_each-clause-goes
returns-in_err-open_each-clause-goes g c = λ leaving H st indexed.
    let t = c.open_each.ensures.stands H st leaving indexed in
    let same = t.holds.1 in
    record { now = t.now; stands = t.stands; held = t.held; holds = (t.holds.0, search rules) }

pub returns-clause-goes : goal.returns-clause-goes
returns-clause-goes g c = λ leaving H st indexed.
    let es = c.args.index.now.entries in
    let t = c.open_each.ensures.stands H st leaving indexed in
    let opened : AreOpened es t.now = ok_of c.open_each.result _ c.in_ok-open_each.was t.holds.2 in
    let sections : sections_at t.now c.count_each.new.index.entries ≡ all_synced (sections_at H es) =
    sections_counted es c.count_each.new.index.entries leaving t.now c.count_each.ensures.counted opened c.count_each.ensures.ordered ∙ ap all_synced t.holds.1 in
    record {
      now = t.now;
      stands = t.stands;
      held = t.held;
      holds = (indexed_counted es c.count_each.new.index.entries leaving t.now c.count_each.ensures.counted opened t.holds.0, sections);
    }
