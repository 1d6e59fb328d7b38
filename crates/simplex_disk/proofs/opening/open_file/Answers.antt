use Rattle.std.proofs.Common.{◌≡◌, ◌∙◌, ◌+◌, ℕ, List, Option, Some, [], arith, ap, sym, rules, subst}
use Rattle.simplex_wire.specs.declared.artifact.Artifact.{Artifact}
use Rattle.simplex_disk.specs.Calls.{bytes_of}
use Rattle.simplex_disk.specs.Left.{LeavesSolid}
use Rattle.simplex_disk.specs.Segments.{IsKept, IsSegment}
use Rattle.simplex_disk.specs.declared.segment.Segment.{Segment}
use Rattle.simplex_disk.specs.Opening.{BeginsWith, LeavesRead}
use Rattle.simplex_disk.proofs.Moments.{weaker_of, none_of}
use Rattle.simplex_disk.proofs.Segments.{ok_of}
use Rattle.simplex_disk.proofs.Measures.{begins_opened}
use Rattle.simplex_disk.proofs.Openings.{mendable, IsKept-opened, solid_read, settled_read}
use Rattle.simplex_disk.proofs.opening.open_file.Goals as goal

pub returns-in_err-bytes-clause-stands : goal.returns-in_err-bytes-clause-stands
returns-in_err-bytes-clause-stands g c = λ H st settled bytes there.
    record { now = H; stands = c.read.ensures.stays H st; held = none_of c.args.file (LeavesRead c.args.file bytes) H (settled_read c.args.file H settled bytes there); holds = search rules }

pub returns-in_err-extent-clause-stands : goal.returns-in_err-extent-clause-stands
returns-in_err-extent-clause-stands g c = λ H st settled bytes there.
    record { now = H; stands = c.read.ensures.stays H st; held = none_of c.args.file (LeavesRead c.args.file bytes) H (settled_read c.args.file H settled bytes there); holds = search rules }

pub returns-in_default-clause-stands : goal.returns-in_default-clause-stands
returns-in_default-clause-stands g c = λ H st settled bytes there.
    record { now = H; stands = c.read.ensures.stays H st; held = none_of c.args.file (LeavesRead c.args.file bytes) H (settled_read c.args.file H settled bytes there); holds = search rules }

-- the bytes that were read
read_is : (read now : List ℕ) (file there : Option (List ℕ)) (bytes : List ℕ) → now ≡ read → read ≡ bytes_of file → there ≡ file → there ≡ Some bytes → now ≡ bytes
read_is read now file there bytes same is law some = same ∙ is ∙ ap bytes_of (sym law ∙ some)

pub mend-requires : goal.mend-requires
mend-requires g c =
    let r = c.requires in
    let n = c.args.file in
    let e = c.in_ok-extent.ensures in
    let items = read_is _ c.deref.result.now _ _ r.3.0 c.deref.ensures.value c.in_ok-bytes.ensures.bytes (g.met.D.Disk.reads c.args.disk.now r.0 r.1 n) r.3.1 in
    let begins : BeginsWith e.0 r.3.0 = subst (λ (l : List ℕ). BeginsWith e.0 l) items e.1 in
    (r.0, c.read.ensures.stays r.0 r.1, (e.0, mendable n e.0 c.in_ok-extent.extent.len r.3.0 r.0 r.3.1 r.2 begins e.2))

pub returns-in_err-mend-clause-stands : goal.returns-in_err-mend-clause-stands
returns-in_err-mend-clause-stands g c = λ H st settled bytes there.
    let n = c.args.file in
    let e = c.in_ok-extent.ensures in
    let items = read_is _ c.deref.result.now _ _ bytes c.deref.ensures.value c.in_ok-bytes.ensures.bytes (g.met.D.Disk.reads c.args.disk.now H st n) there in
    let begins : BeginsWith e.0 bytes = subst (λ (l : List ℕ). BeginsWith e.0 l) items e.1 in
    let t = c.mend.ensures.stands H (c.read.ensures.stays H st) e.0 (mendable n e.0 c.in_ok-extent.extent.len bytes H there settled begins e.2) in
    record { now = t.now; stands = t.stands; held = weaker_of n (LeavesSolid n e.0) (LeavesRead n bytes) (λ l left. solid_read n e.0 bytes begins l left) H t.now t.held; holds = search rules }

pub returns-clause-stands : goal.returns-clause-stands
returns-clause-stands g c = λ H st settled bytes there.
    let n = c.args.file in
    let e = c.in_ok-extent.ensures in
    let items = read_is _ c.deref.result.now _ _ bytes c.deref.ensures.value c.in_ok-bytes.ensures.bytes (g.met.D.Disk.reads c.args.disk.now H st n) there in
    let begins : BeginsWith e.0 bytes = subst (λ (l : List ℕ). BeginsWith e.0 l) items e.1 in
    let t = c.mend.ensures.stands H (c.read.ensures.stays H st) e.0 (mendable n e.0 c.in_ok-extent.extent.len bytes H there settled begins e.2) in
    let s : Segment = record { end = c.in-Some.end; synced = c.in_ok-extent.extent.count; gates = c.new.result } in
    let size : c.in-Some.end ≡ c.in_ok-extent.extent.len + 1 = search rules in
    let kept : IsKept s e.0 [] = IsKept-opened s e.0 bytes begins (omega (arith, size, e.2)) (sym e.3) c.new.ensures.items in
    let seg : IsSegment n s e.0 [] t.now = record { stands = ok_of c.mend.result _ c.in_ok-mend.was t.holds; kept = kept } in
    record {
      now = t.now;
      stands = t.stands;
      held = weaker_of n (LeavesSolid n e.0) (LeavesRead n bytes) (λ l left. solid_read n e.0 bytes begins l left) H t.now t.held;
      holds = subst (λ (l : List Artifact). IsSegment n s l [] t.now) (sym (begins_opened e.0 bytes begins)) seg;
    }
