use Rattle.std.proofs.Common.{◌<◌, ◌≤◌, ◌∷◌, get_or, ℕ, List, Option, length, subst, arith, rules, refl}
use Rattle.simplex_disk.specs.Calls.{Leave, bytes_of}
use Rattle.simplex_disk.specs.Contents.{Any}
use Rattle.simplex_disk.proofs.Moments.{none_of}
use Rattle.simplex_disk.proofs.Steps.{leave_so_far}
use Rattle.simplex_disk.proofs.Stops.{next_long, next_closed, next_end, next_small, no_next, no_end}
use Rattle.simplex_disk.proofs.stopping.close_next.Goals as goal

pub returns-then-kept-gates-clause-stands : goal.returns-then-kept-gates-clause-stands
returns-then-kept-gates-clause-stands g c = λ H st S P o is last.
    let n = c.args.file in
    let none : length c.args.gates.now ≤ c.args.kept = c.if-kept-gates.true in
    record {
      now = H;
      stands = st;
      held = none_of n Any H tt;
      holds = (no_next n S P c.args.gates.now c.args.kept H o is none, no_end n S P c.args.gates.now c.args.kept H o is none c.args.end last);
    }

pub leave-requires : goal.leave-requires
leave-requires g c =
    let H = c.requires.0 in
    let r = c.requires.2 in
    let place = get_or c.args.gates.now c.args.kept 0 in
    let lt : c.args.kept < length c.args.gates.now = search rules in
    subst (λ (x : Option (List ℕ)). place < length (bytes_of x)) (g.met.D.Disk.reads c.args.disk.now H c.requires.1 c.args.file)
    (next_long c.args.file r.0 r.1 c.args.gates.now c.args.kept H r.2 r.3 place refl lt)

pub overflow_add-result : goal.overflow_add-result
overflow_add-result g c =
    let H = c.requires.0 in
    let r = c.requires.2 in
    let place = get_or c.args.gates.now c.args.kept 0 in
    let lt : c.args.kept < length c.args.gates.now = search rules in
    omega (arith, next_small c.args.file r.0 r.1 c.args.gates.now c.args.kept H r.2 r.3 place refl lt c.args.end r.4, c.ranges.end.fits)

pub returns-clause-stands : goal.returns-clause-stands
returns-clause-stands g c = λ H st S P o is last.
    let n = c.args.file in
    let place = get_or c.args.gates.now c.args.kept 0 in
    let lt : c.args.kept < length c.args.gates.now = search rules in
    record {
      now = Leave n place 0 ∷ H;
      stands = c.leave.ensures.stands H st;
      held = leave_so_far n Any H H (none_of n Any H tt) place 0 tt;
      holds = (next_closed n S P c.args.gates.now c.args.kept H o is place refl lt, next_end n S P c.args.gates.now c.args.kept H o is place refl lt);
    }
