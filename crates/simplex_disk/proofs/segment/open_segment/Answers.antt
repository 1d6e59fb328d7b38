use Rattle.std.proofs.Common.{◌≡◌, ℕ, List, [], ◌∷◌, ◌++◌, Result, ◌∙◌, rules}
use Rattle.std.specs.Result.{OnOk}
use Rattle.simplex_wire.specs.declared.artifact.Artifact.{Artifact}
use Rattle.simplex_disk.specs.declared.error.DiskError.{DiskError}
use Rattle.simplex_disk.specs.Calls.{Call, Sync}
use Rattle.simplex_disk.specs.Chain.{total, places}
use Rattle.simplex_disk.specs.Gates.{Waits}
use Rattle.simplex_disk.specs.Left.{Stands, HasChain, LeavesChain, LeavesFront}
use Rattle.simplex_disk.specs.Moments.{AlwaysOf}
use Rattle.simplex_disk.proofs.Moments.{none_of, now_of, join_of, weaker_of}
use Rattle.simplex_disk.proofs.Steps.{sync_so_far, then_same, then_synced}
use Rattle.simplex_disk.proofs.Chains.{HasChain-sync, LeavesChain-sync, LeavesChain-front}
use Rattle.simplex_disk.proofs.Segments.{ok_of}
use Rattle.simplex_disk.proofs.segment.open_segment.Goals as goal

-- the records are on the disk
first : (n : ℕ) (S P : List Artifact) (H : List Call) → Stands n S P H → AlwaysOf n (LeavesFront n S P) H (Sync n ∷ H)
first n S P H is = sync_so_far n (LeavesFront n S P) H H (none_of n (LeavesFront n S P) H is.left) (LeavesChain-front n S P _ (LeavesChain-sync n S P H is.content))

waits : (n : ℕ) (S P : List Artifact) (gates : List ℕ) (H : List Call) → HasChain n S P H → gates ≡ places (total S) P → Waits n S P gates (Sync n ∷ H)
waits n S P gates H content places = record { content = HasChain-sync n S P H content; left = LeavesChain-sync n S P H content; places = places }

-- so are their gates
last : (n : ℕ) (S P : List Artifact) (H : List Call) → HasChain n S P H → Stands n S P (Sync n ∷ H)
last n S P H has = record { content = HasChain-sync n S P H has; left = LeavesChain-front n S P _ (LeavesChain-sync n S P H has) }

pub returns-in_err-sync-clause-stands : goal.returns-in_err-sync-clause-stands
returns-in_err-sync-clause-stands g c = λ H st S P is.
    let n = c.args.file in
    let Q = LeavesFront n S P in
    then_same n Q H H (none_of n Q H is.stands.left) (g.D.Disk.StandsFor c.sync.new.self) _ (c.in_err-sync.ensures.err H st) (is.stands, search rules)

pub open_gates-requires : goal.open_gates-requires
open_gates-requires g c =
    let r = c.requires.2 in
    let H = c.requires.0 in
    (Sync c.args.file ∷ H, c.in_ok-sync.ensures.ok H c.requires.1, (r.0, r.1, waits c.args.file r.0 r.1 _ H r.2.stands.content (c.deref.ensures.value ∙ r.2.kept.gates)))

pub returns-in_err-open_gates-clause-stands : goal.returns-in_err-open_gates-clause-stands
returns-in_err-open_gates-clause-stands g c = λ H st S P is.
    let n = c.args.file in
    let Q = LeavesFront n S P in
    let H1 = Sync n ∷ H in
    let w = waits n S P c.deref.result.now H is.stands.content (c.deref.ensures.value ∙ is.kept.gates) in
    let t = c.open_gates.ensures.stands H1 (c.in_ok-sync.ensures.ok H st) S P w in
    let left = now_of n (LeavesChain n S P) H1 t.now t.held in
    record {
      now = t.now;
      stands = t.stands;
      held = join_of n Q H H1 t.now (first n S P H is.stands) (weaker_of n (LeavesChain n S P) Q (λ l left. LeavesChain-front n S P l left) H1 t.now t.held);
      holds = (record { content = t.holds.0; left = LeavesChain-front n S P t.now left }, search rules);
    }

pub returns-clause-stands : goal.returns-clause-stands
returns-clause-stands g c = λ H st S P is.
    let n = c.args.file in
    let Q = LeavesFront n S P in
    let H1 = Sync n ∷ H in
    let w = waits n S P c.deref.result.now H is.stands.content (c.deref.ensures.value ∙ is.kept.gates) in
    let t = c.open_gates.ensures.stands H1 (c.in_ok-sync.ensures.ok H st) S P w in
    let left = now_of n (LeavesChain n S P) H1 t.now t.held in
    let held = join_of n Q H H1 t.now (first n S P H is.stands) (weaker_of n (LeavesChain n S P) Q (λ l left. LeavesChain-front n S P l left) H1 t.now t.held) in
    let there : Stands n S P t.now = record { content = t.holds.0; left = LeavesChain-front n S P t.now left } in
    let all : HasChain n (S ++ P) [] t.now = ok_of c.open_gates.result _ c.in_ok-open_gates.was t.holds.1 in
    let R : Result (Unit {0}) DiskError → List Call → Type 0 = λ r now. Stands n S P now × OnOk r (Stands n (S ++ P) [] now) in
    then_synced n Q H t.now held c.sync-2.result (g.D.Disk.StandsFor c.open_gates.new.disk) (g.D.Disk.StandsFor c.sync-2.new.self) R t.stands
    c.sync-2.ensures.ok c.sync-2.ensures.err (last n S P t.now t.holds.0).left (λ x. (last n S P t.now t.holds.0, last n (S ++ P) [] t.now all)) (λ e. (there, tt))
