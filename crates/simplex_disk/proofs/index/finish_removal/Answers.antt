use Rattle.std.proofs.Common.{◌≡◌, ◌∙◌, ◌+◌, ◌-◌, ◌∷◌, ℕ, Option, Some, refl, ap, arith, true}
use Rattle.simplex_disk.specs.Pruning.{removal_calls}
use Rattle.simplex_disk.specs.Calls.{Remove, Sync}
use Rattle.simplex_disk.proofs.Leaving.{still_leaving, removed_in_part, removed, removed_synced, moments_leaving, same_leaving, indexed_left, IsAbsent-removed}
use Rattle.simplex_disk.proofs.Whole.{moments_no}
use Rattle.simplex_disk.proofs.Paces.{heeded_ok, heeded_err, failed_of}
use Rattle.simplex_disk.proofs.index.finish_removal.Goals as goal

pub returns-in_err-remove-clause-goes : goal.returns-in_err-remove-clause-goes
returns-in_err-remove-clause-goes g c = λ es H st indexed.
    let n = c.in-Some.file in
    let St = g.D.Disk.StandsFor c.remove.new.self in
    still_leaving n es c.args.leaving.now c.in-Some.is H indexed St (removed_in_part n es c.args.leaving.now c.in-Some.is H indexed St (c.in_err-remove.ensures.in_part H st))

pub returns-in_err-sync-clause-goes : goal.returns-in_err-sync-clause-goes
returns-in_err-sync-clause-goes g c = λ es H st indexed.
    let n = c.in-Some.file in
    let St = g.D.Disk.StandsFor c.sync.new.self in
    still_leaving n es c.args.leaving.now c.in-Some.is H indexed St
    (record { now = Remove n true ∷ H; stands = c.in_err-sync.ensures.err _ (c.in_ok-remove.ensures.ok H st); held = removed n es c.args.leaving.now c.in-Some.is H indexed; holds = tt })

pub returns-in_ok-sync-clause-goes : goal.returns-in_ok-sync-clause-goes
returns-in_ok-sync-clause-goes g c = λ es H st indexed.
    let n = c.in-Some.file in
    let H2 = Sync n ∷ Remove n true ∷ H in
    let h = removed_synced n es c.args.leaving.now c.in-Some.is H indexed in
    record {
      now = H2;
      stands = c.in_ok-sync.ensures.ok _ (c.in_ok-remove.ensures.ok H st);
      held = moments_leaving n es c.args.leaving.now c.in-Some.is H indexed H2 h;
      holds = (indexed_left n es c.args.leaving.now c.in-Some.is H indexed H2 h (IsAbsent-removed n H), same_leaving n es c.args.leaving.now c.in-Some.is H indexed H2 h);
    }

pub returns-in_default-clause-goes : goal.returns-in_default-clause-goes
returns-in_default-clause-goes g c = λ es H st indexed. record { now = H; stands = st; held = moments_no 0 es c.args.leaving.now H indexed; holds = (indexed, refl) }

-- the order, where a file is leaving
told_two : (o : Option ℕ) (leaving : Option ℕ) (n more : ℕ) → leaving ≡ Some n → o ≡ Some (removal_calls leaving + more) → o ≡ Some (2 + more)
told_two o leaving n more is told = told ∙ ap (λ (l : Option ℕ). Some (removal_calls l + more)) is

pub returns-in_err-remove-clause-spared : goal.returns-in_err-remove-clause-spared
returns-in_err-remove-clause-spared g c = λ more some told.
    let first = told_two _ c.args.leaving.now c.in-Some.file more c.in-Some.is told in
    let e : 2 + more ≡ 1 = heeded_err c.remove.result _ _ _ (2 + more) c.in_err-remove.was (failed_of c.remove.result _ c.in_err-remove.was c.remove.ensures.room) c.remove.ensures.heeds first in
    absurd (omega (arith, e))

pub returns-in_err-sync-clause-spared : goal.returns-in_err-sync-clause-spared
returns-in_err-sync-clause-spared g c = λ more some told.
    let first = told_two _ c.args.leaving.now c.in-Some.file more c.in-Some.is told in
    let second = heeded_ok c.remove.result _ _ _ (2 + more) c.in_ok-remove.was c.remove.ensures.heeds first in
    let e : 2 + more - 1 ≡ 1 = heeded_err c.sync.result _ _ _ (2 + more - 1) c.in_err-sync.was (failed_of c.sync.result _ c.in_err-sync.was c.sync.ensures.room) c.sync.ensures.heeds second.1 in
    absurd (omega (arith, e, some))

pub returns-in_ok-sync-clause-spared : goal.returns-in_ok-sync-clause-spared
returns-in_ok-sync-clause-spared g c = λ more some told.
    let first = told_two _ c.args.leaving.now c.in-Some.file more c.in-Some.is told in
    let second = heeded_ok c.remove.result _ _ _ (2 + more) c.in_ok-remove.was c.remove.ensures.heeds first in
    let third = heeded_ok c.sync.result _ _ _ (2 + more - 1) c.in_ok-sync.was c.sync.ensures.heeds second.1 in
    third.1 ∙ ap (λ (k : ℕ). Some k) (let e : 2 + more - 1 - 1 ≡ more = omega arith in e)

pub returns-in_default-clause-spared : goal.returns-in_default-clause-spared
returns-in_default-clause-spared g c = λ more some told.
    told ∙ ap (λ (l : Option ℕ). Some (removal_calls l + more)) c.in_default.is ∙ ap (λ (k : ℕ). Some k) (let e : 0 + more ≡ more = omega arith in e)
