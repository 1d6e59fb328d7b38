use Rattle.std.proofs.Common.{◌≤◌, ℕ, List, [], ◌∷◌, Option, Result, length, true, subst, rules}
use Rattle.std.specs.Result.{OnOk}
use Rattle.simplex_wire.specs.declared.artifact.Artifact.{Artifact}
use Rattle.simplex_disk.specs.declared.error.DiskError.{DiskError}
use Rattle.simplex_disk.specs.Calls.{Call, Cut, Sync, Write, bytes_of}
use Rattle.simplex_disk.specs.Left.{HasChain, LeavesSolid, IsMendable, Stands}
use Rattle.simplex_disk.specs.Moments.{AlwaysOf}
use Rattle.simplex_disk.proofs.Moments.{none_of}
use Rattle.simplex_disk.proofs.Steps.{cut_so_far, sync_so_far, write_so_far, then_same, then_cut_in_part, then_written_in_part, then_synced}
use Rattle.simplex_disk.proofs.Chains.{HasChain-sync, LeavesChain-sync, LeavesChain-front}
use Rattle.simplex_disk.proofs.Mends.{LeavesSolid-start, LeavesSolid-cut, IsCut-sync, IsCut-solid, LeavesSolid-gate, HasChain-gate_behind, IsCut-long, HasChain-solid}
use Rattle.simplex_disk.proofs.mending.mend.Goals as goal

start : (n : ℕ) (S : List Artifact) (len : ℕ) (H : List Call) → IsMendable n S len H → AlwaysOf n (LeavesSolid n S) H H
start n S len H m = none_of n (LeavesSolid n S) H (LeavesSolid-start n S len H m)

-- the file cut, on the disk
cut_synced : (n : ℕ) (S : List Artifact) (len : ℕ) (H : List Call) → IsMendable n S len H → AlwaysOf n (LeavesSolid n S) H (Sync n ∷ Cut n len true ∷ H)
cut_synced n S len H m =
    let P = LeavesSolid n S in
    sync_so_far n P H (Cut n len true ∷ H) (cut_so_far n P H H (start n S len H m) len true (LeavesSolid-cut n S len true H m)) (IsCut-solid n S _ (IsCut-sync n S len H m))

pub returns-in_err-cut-clause-stands : goal.returns-in_err-cut-clause-stands
returns-in_err-cut-clause-stands g c = λ H st S m.
    let n = c.args.file in
    let len = c.args.len in
    then_cut_in_part n (LeavesSolid n S) H H (start n S len H m) (g.D.Disk.StandsFor c.cut.new.self) _ len (c.in_err-cut.ensures.in_part H st)
    (λ done. LeavesSolid-cut n S len done H m) (search rules) (λ done. search rules)

pub returns-in_err-sync-clause-stands : goal.returns-in_err-sync-clause-stands
returns-in_err-sync-clause-stands g c = λ H st S m.
    let n = c.args.file in
    let len = c.args.len in
    let cut = cut_so_far n (LeavesSolid n S) H H (start n S len H m) len true (LeavesSolid-cut n S len true H m) in
    then_same n (LeavesSolid n S) H _ cut (g.D.Disk.StandsFor c.sync.new.self) _ (c.in_err-sync.ensures.err _ (c.in_ok-cut.ensures.ok H st)) (search rules)

pub write_at-requires : goal.write_at-requires
write_at-requires g c =
    let H = c.requires.0 in
    let S = c.requires.2.0 in
    let m = c.requires.2.1 in
    let n = c.args.file in
    let len = c.args.len in
    let H2 = Sync n ∷ Cut n len true ∷ H in
    let st2 = c.in_ok-sync.ensures.ok _ (c.in_ok-cut.ensures.ok H c.requires.1) in
    subst (λ (o : Option (List ℕ)). len ≤ length (bytes_of o)) (g.met.D.Disk.reads c.sync.new.self H2 st2 n) (IsCut-long n S len H2 m.size (IsCut-sync n S len H m))

pub returns-in_err-write_at-clause-stands : goal.returns-in_err-write_at-clause-stands
returns-in_err-write_at-clause-stands g c = λ H st S m.
    let n = c.args.file in
    let len = c.args.len in
    let H2 = Sync n ∷ Cut n len true ∷ H in
    let st2 = c.in_ok-sync.ensures.ok _ (c.in_ok-cut.ensures.ok H st) in
    then_written_in_part n (LeavesSolid n S) H H2 (cut_synced n S len H m) (g.D.Disk.StandsFor c.write_at.new.self) _ len 1 (c.in_err-write_at.ensures.in_part H2 st2)
    (λ left few. LeavesSolid-gate n S len left H2 m.size (IsCut-sync n S len H m)) (search rules) (λ left few. search rules)

pub returns-clause-stands : goal.returns-clause-stands
returns-clause-stands g c = λ H st S m.
    let n = c.args.file in
    let len = c.args.len in
    let P = LeavesSolid n S in
    let H2 = Sync n ∷ Cut n len true ∷ H in
    let H3 = Write n len 1 (0 ∷ []) ∷ H2 in
    let st3 = c.in_ok-write_at.ensures.ok _ (c.in_ok-sync.ensures.ok _ (c.in_ok-cut.ensures.ok H st)) in
    let gate = write_so_far n P H H2 (cut_synced n S len H m) len 1 (0 ∷ []) (LeavesSolid-gate n S len (0 ∷ []) H2 m.size (IsCut-sync n S len H m)) in
    let has : HasChain n S [] H3 = HasChain-gate_behind n S len 1 H2 m.size (IsCut-sync n S len H m) in
    let made : Stands n S [] (Sync n ∷ H3) = record { content = HasChain-sync n S [] H3 has; left = LeavesChain-front n S [] _ (LeavesChain-sync n S [] H3 has) } in
    let R : Result (Unit {0}) DiskError → List Call → Type 0 = λ r now. OnOk r (Stands n S [] now) in
    then_synced n P H H3 gate c.sync-2.result (g.D.Disk.StandsFor c.write_at.new.self) (g.D.Disk.StandsFor c.sync-2.new.self) R st3
    c.sync-2.ensures.ok c.sync-2.ensures.err (HasChain-solid n S H3 has) (λ x. made) (λ e. tt)
