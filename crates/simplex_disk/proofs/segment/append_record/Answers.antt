use Rattle.std.proofs.Common.{◌≡◌, ◌≤◌, ◌+◌, ℕ, List, ◌∷◌, length, Option, refl, subst, ap, ◌∙◌, arith, rules}
use Rattle.simplex_disk.specs.Calls.{Write, bytes_of}
use Rattle.simplex_disk.specs.Left.{LeavesFront}
use Rattle.simplex_disk.proofs.Moments.{none_of}
use Rattle.simplex_disk.proofs.Steps.{write_so_far, then_same, then_written_in_part}
use Rattle.simplex_disk.proofs.Chains.{HasChain-long, LeavesFront-behind}
use Rattle.simplex_disk.proofs.Segments.{Stands-appended, Stands-behind, IsKept-appended, IsKept-same, on_err}
use Rattle.simplex_disk.proofs.segment.append_record.Goals as goal

pub returns-in_default-clause-stands : goal.returns-in_default-clause-stands
returns-in_default-clause-stands g c = λ H st S P is.
    then_same c.args.file (LeavesFront c.args.file S P) H H (none_of c.args.file (LeavesFront c.args.file S P) H is.stands.left) (g.D.Disk.StandsFor c.args.disk.now) _ st (is.stands, search rules, is.kept)

pub write_at-requires : goal.write_at-requires
write_at-requires g c =
    let r = c.requires.2 in
    let end = c.args.segment.now.end in
    subst (λ (o : Option (List ℕ)). end ≤ length (bytes_of o)) (g.met.D.Disk.reads c.args.disk.now c.requires.0 c.requires.1 c.args.file)
    (omega (arith, r.2.kept.end, HasChain-long c.args.file r.0 r.1 c.requires.0 r.2.stands.content))

pub returns-in_err-write_at-clause-stands : goal.returns-in_err-write_at-clause-stands
returns-in_err-write_at-clause-stands g c = λ H st S P is.
    let n = c.args.file in
    let seg = c.args.segment.now in
    let size = length c.args.bytes.now in
    let P0 = LeavesFront n S P in
    then_written_in_part n P0 H H (none_of n P0 H is.stands.left) (g.D.Disk.StandsFor c.write_at.new.self) _ seg.end size (c.in_err-write_at.ensures.in_part H st)
    (λ left few. LeavesFront-behind n S P seg.end size left H (omega (arith, is.kept.end)) is.stands.left)
    (is.stands, search rules, on_err c.from_residual.result is.kept)
    (λ left few. (Stands-behind n S P seg.end size left H is.kept.end few is.stands, search rules, on_err c.from_residual.result is.kept))

pub returns-in_err-push-clause-stands : goal.returns-in_err-push-clause-stands
returns-in_err-push-clause-stands g c = λ H st S P is.
    let n = c.args.file in
    let seg = c.args.segment.now in
    let bytes = c.args.bytes.now in
    let P0 = LeavesFront n S P in
    let few : length bytes ≤ length bytes = omega arith in
    record {
      now = Write n seg.end (length bytes) bytes ∷ H;
      stands = c.in_ok-write_at.ensures.ok H st;
      held = write_so_far n P0 H H (none_of n P0 H is.stands.left) seg.end (length bytes) bytes (LeavesFront-behind n S P seg.end (length bytes) bytes H (omega (arith, is.kept.end)) is.stands.left);
      holds = (
        Stands-behind n S P seg.end (length bytes) bytes H is.kept.end few is.stands,
        search rules,
        on_err c.from_residual-in_err-push.result (IsKept-same seg (record { end = seg.end; synced = seg.synced; gates = c.push.new.self }) S P is.kept refl c.in_err-push.ensures.items refl),
      );
    }

pub returns-clause-stands : goal.returns-clause-stands
returns-clause-stands g c = λ H st S P is.
    let n = c.args.file in
    let seg = c.args.segment.now in
    let bytes = c.args.bytes.now in
    let P0 = LeavesFront n S P in
    let end : c.in-Some.end ≡ seg.end + length bytes = search rules in
    record {
      now = Write n seg.end (length bytes) bytes ∷ H;
      stands = c.in_ok-write_at.ensures.ok H st;
      held = write_so_far n P0 H H (none_of n P0 H is.stands.left) seg.end (length bytes) bytes (LeavesFront-behind n S P seg.end (length bytes) bytes H (omega (arith, is.kept.end)) is.stands.left);
      holds = (
        Stands-behind n S P seg.end (length bytes) bytes H is.kept.end (omega arith) is.stands,
        (λ a reads spelled. record {
          stands = Stands-appended n S P a seg.end (length bytes) bytes H is.kept.end spelled is.stands;
          kept = IsKept-appended seg (record { end = c.in-Some.end; synced = seg.synced; gates = c.push.new.self }) S P a is.kept reads refl c.in_ok-push.ensures.items
              (end ∙ ap (λ (l : List ℕ). seg.end + length l) spelled);
        }),
        tt,
      );
    }
