use Rattle.std.proofs.Common.{◌≡◌, ◌∙◌, ◌+◌, ◌-◌, ℕ, ◌∷◌, List, Some, Result, true, ap, arith, rules}
use Rattle.std.specs.Result.{OnOk}
use Rattle.simplex_disk.specs.declared.error.DiskError.{DiskError}
use Rattle.simplex_disk.specs.Calls.{Call, Remove}
use Rattle.simplex_disk.specs.Left.{IsAbsent}
use Rattle.simplex_disk.specs.Pruning.{LeavesGone}
use Rattle.simplex_disk.proofs.Moments.{none_of}
use Rattle.simplex_disk.proofs.Steps.{remove_so_far, then_removed_in_part, then_synced}
use Rattle.simplex_disk.proofs.Leaving.{IsAbsent-removed}
use Rattle.simplex_disk.proofs.Prunes.{front_gone, removed_gone, synced_gone}
use Rattle.simplex_disk.proofs.Paces.{heeded_ok, heeded_err, failed_of, paced_last}
use Rattle.simplex_disk.proofs.pruning.drop_file.Goals as goal

pub returns-in_err-remove-clause-stands : goal.returns-in_err-remove-clause-stands
returns-in_err-remove-clause-stands g c = λ H st S P left.
    let n = c.args.file in
    let Q = LeavesGone n S P in
    then_removed_in_part n Q H H (none_of n Q H (front_gone n S P H left)) (g.D.Disk.StandsFor c.remove.new.self) _ (c.in_err-remove.ensures.in_part H st)
    (λ done. removed_gone n S P done H left) (search rules) (λ done. search rules)

pub returns-clause-stands : goal.returns-clause-stands
returns-clause-stands g c = λ H st S P left.
    let n = c.args.file in
    let Q = LeavesGone n S P in
    let H1 = Remove n true ∷ H in
    let removed = remove_so_far n Q H H (none_of n Q H (front_gone n S P H left)) true (removed_gone n S P true H left) in
    let R : Result (Unit {0}) DiskError → List Call → Type 0 = λ r now. OnOk r (IsAbsent n now) in
    then_synced n Q H H1 removed c.sync.result (g.D.Disk.StandsFor c.remove.new.self) (g.D.Disk.StandsFor c.sync.new.self) R (c.in_ok-remove.ensures.ok H st)
    c.sync.ensures.ok c.sync.ensures.err (synced_gone n S P H) (λ x. IsAbsent-removed n H) (λ e. tt)

pub returns-in_err-remove-clause-paced : goal.returns-in_err-remove-clause-paced
returns-in_err-remove-clause-paced g c = λ more told.
    let e : 2 + more ≡ 1 = heeded_err c.remove.result _ _ _ (2 + more) c.in_err-remove.was (failed_of c.remove.result _ c.in_err-remove.was c.remove.ensures.room) c.remove.ensures.heeds told in
    absurd (omega (arith, e))

pub returns-clause-paced : goal.returns-clause-paced
returns-clause-paced g c = λ more told.
    let first = heeded_ok c.remove.result _ _ _ (2 + more) c.in_ok-remove.was c.remove.ensures.heeds told in
    let next = first.1 ∙ ap (λ (k : ℕ). Some k) (let e : 2 + more - 1 ≡ 1 + more = omega arith in e) in
    paced_last c.sync.result _ _ more c.sync.ensures.room c.sync.ensures.heeds next
