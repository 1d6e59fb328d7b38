use Rattle.std.proofs.Common.{ℕ, List, [], ◌∷◌, Result, true, rules, arith}
use Rattle.std.specs.Result.{OnOk}
use Rattle.simplex_disk.specs.declared.error.DiskError.{DiskError}
use Rattle.simplex_disk.specs.Calls.{Call, Cut, Sync, Write}
use Rattle.simplex_disk.specs.Left.{IsShut, Stands}
use Rattle.simplex_disk.specs.Moments.{AlwaysOf}
use Rattle.simplex_disk.proofs.Moments.{none_of}
use Rattle.simplex_disk.proofs.Steps.{cut_so_far, sync_so_far, write_so_far, then_same, then_cut_in_part, then_written_in_part, then_synced}
use Rattle.simplex_disk.proofs.Chains.{IsShut-cut, IsUnmade-cut, IsUnmade-shut, IsUnmade-write, IsUnmade-sync, HasChain-new, HasChain-sync, LeavesChain-sync, LeavesChain-front}
use Rattle.simplex_disk.proofs.segment.make_file.Goals as goal

pub returns-in_err-cut-clause-stands : goal.returns-in_err-cut-clause-stands
returns-in_err-cut-clause-stands g c = λ H st shut.
    let n = c.args.file in
    let P = IsShut n in
    then_cut_in_part n P H H (none_of n P H shut) (g.D.Disk.StandsFor c.cut.new.self) _ 0 (c.in_err-cut.ensures.in_part H st) (λ done. IsShut-cut n done H shut) (search rules) (λ done. search rules)

-- the file cut, on the disk
cut_synced : (n : ℕ) (H : List Call) → IsShut n H → AlwaysOf n (IsShut n) H (Sync n ∷ Cut n 0 true ∷ H)
cut_synced n H shut =
    let P = IsShut n in
    sync_so_far n P H (Cut n 0 true ∷ H) (cut_so_far n P H H (none_of n P H shut) 0 true (IsShut-cut n true H shut)) (IsUnmade-shut n _ (IsUnmade-cut n H))

pub returns-in_err-sync-clause-stands : goal.returns-in_err-sync-clause-stands
returns-in_err-sync-clause-stands g c = λ H st shut.
    let n = c.args.file in
    let P = IsShut n in
    let cut = cut_so_far n P H H (none_of n P H shut) 0 true (IsShut-cut n true H shut) in
    then_same n P H _ cut (g.D.Disk.StandsFor c.sync.new.self) _ (c.in_err-sync.ensures.err _ (c.in_ok-cut.ensures.ok H st)) (search rules)

pub returns-in_err-write_at-clause-stands : goal.returns-in_err-write_at-clause-stands
returns-in_err-write_at-clause-stands g c = λ H st shut.
    let n = c.args.file in
    let P = IsShut n in
    let H2 = Sync n ∷ Cut n 0 true ∷ H in
    let st2 = c.in_ok-sync.ensures.ok _ (c.in_ok-cut.ensures.ok H st) in
    then_written_in_part n P H H2 (cut_synced n H shut) (g.D.Disk.StandsFor c.write_at.new.self) _ 0 1 (c.in_err-write_at.ensures.in_part H2 st2)
    (λ left few. IsUnmade-shut n _ (IsUnmade-write n left H2 few (IsUnmade-cut n H))) (search rules) (λ left few. search rules)

-- what stands at the end
made : (n : ℕ) (H : List Call) → Stands n [] [] (Sync n ∷ Write n 0 1 (0 ∷ []) ∷ H)
made n H =
    let has = HasChain-new n H in
    record { content = HasChain-sync n [] [] _ has; left = LeavesChain-front n [] [] _ (LeavesChain-sync n [] [] _ has) }

pub returns-clause-stands : goal.returns-clause-stands
returns-clause-stands g c = λ H st shut.
    let n = c.args.file in
    let P = IsShut n in
    let H2 = Sync n ∷ Cut n 0 true ∷ H in
    let H3 = Write n 0 1 (0 ∷ []) ∷ H2 in
    let st3 = c.in_ok-write_at.ensures.ok _ (c.in_ok-sync.ensures.ok _ (c.in_ok-cut.ensures.ok H st)) in
    let unmade = IsUnmade-write n (0 ∷ []) H2 (omega arith) (IsUnmade-cut n H) in
    let gate = write_so_far n P H H2 (cut_synced n H shut) 0 1 (0 ∷ []) (IsUnmade-shut n _ unmade) in
    let R : Result (Unit {0}) DiskError → List Call → Type 0 = λ r now. OnOk r (Stands n [] [] now) in
    then_synced n P H H3 gate c.sync-2.result (g.D.Disk.StandsFor c.write_at.new.self) (g.D.Disk.StandsFor c.sync-2.new.self) R st3
    c.sync-2.ensures.ok c.sync-2.ensures.err (IsUnmade-shut n _ (IsUnmade-sync n H3 unmade)) (λ x. made n H2) (λ e. tt)
