use Rattle.std.proofs.Common.{◌≤◌, ℕ, length, Option, List, [], ◌∷◌, get_or, subst, arith, rules}
use Rattle.simplex_disk.specs.Calls.{Write, bytes_of}
use Rattle.simplex_disk.specs.Left.{LeavesChain}
use Rattle.simplex_disk.proofs.Moments.{none_of, now_of}
use Rattle.simplex_disk.proofs.Steps.{write_so_far, then_written_in_part}
use Rattle.simplex_disk.proofs.Gates.{gate_at, long_enough, opens_none, OpensSome-stays, OpensSome-all, step_ok, step_left, step_long, step_failed}
use Rattle.simplex_disk.proofs.segment.open_gates.Goals as goal

pub loop-place-init : goal.loop-place-init
loop-place-init g c = record {
  opens = λ H st S P w. record { now = H; stands = st; held = none_of c.args.file (LeavesChain c.args.file S P) H w.left; holds = opens_none c.args.file S P H w.content };
  ends = search rules;
}

pub write_at-requires : goal.write_at-requires
write_at-requires g c =
    let r = c.requires.2 in
    let n = c.args.file in
    let i = c.loop-place.place-index in
    let gate = gate_at n r.0 r.1 c.args.gates.now i _ r.2 c.loop-place-test.true in
    let o = c.loop-place.invariant.opens c.requires.0 c.requires.1 r.0 r.1 r.2 in
    subst (λ (x : Option (List ℕ)). get_or c.args.gates.now i 0 ≤ length (bytes_of x)) (g.met.D.Disk.reads c.loop-place.disk o.now o.stands n)
    (step_long n r.0 r.1 i _ o.now gate.record_at gate.place o.holds)

pub returns-in_err-write_at-clause-stands : goal.returns-in_err-write_at-clause-stands
returns-in_err-write_at-clause-stands g c = λ H0 st S P w.
    let n = c.args.file in
    let i = c.loop-place.place-index in
    let gate = gate_at n S P c.args.gates.now i _ w c.loop-place-test.true in
    let o = c.loop-place.invariant.opens H0 st S P w in
    let Q = LeavesChain n S P in
    then_written_in_part n Q H0 o.now o.held (g.D.Disk.StandsFor c.write_at.new.self) _ (get_or c.args.gates.now i 0) 1 (c.in_err-write_at.ensures.in_part o.now o.stands)
    (λ left few. step_left n S P i _ o.now gate.record_at gate.place left (now_of n Q H0 o.now o.held))
    (OpensSome-stays n S P i o.now o.holds, search rules)
    (λ left few. (step_failed n S P i _ o.now gate.record_at gate.place left few o.holds, search rules))

pub loop-place-preserved : goal.loop-place-preserved
loop-place-preserved g c = record {
  opens = λ H0 st S P w.
      let n = c.args.file in
      let i = c.loop-place.place-index in
      let Q = LeavesChain n S P in
      let gate = gate_at n S P c.args.gates.now i _ w c.loop-place-test.true in
      let o = c.loop-place.invariant.opens H0 st S P w in
      let place = get_or c.args.gates.now i 0 in
      record {
        now = Write n place 1 (1 ∷ []) ∷ o.now;
        stands = c.in_ok-write_at.ensures.ok o.now o.stands;
        held = write_so_far n Q H0 o.now o.held place 1 (1 ∷ []) (step_left n S P i _ o.now gate.record_at gate.place (1 ∷ []) (now_of n Q H0 o.now o.held));
        holds = step_ok n S P i _ o.now gate.record_at gate.place 1 o.holds;
      };
  ends = search rules;
}

pub returns-clause-stands : goal.returns-clause-stands
returns-clause-stands g c = λ H0 st S P w.
    let n = c.args.file in
    let o = c.loop-place.invariant.opens H0 st S P w in
    let i = c.loop-place.place-index in
    record {
      now = o.now;
      stands = o.stands;
      held = o.held;
      holds = (OpensSome-stays n S P i o.now o.holds, OpensSome-all n S P i o.now (omega (arith, long_enough n S P c.args.gates.now _ w, c.loop-place-test.false)) o.holds);
    }
