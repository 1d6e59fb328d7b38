use Rattle.std.proofs.Common.{◌<◌, ◌∷◌, ◌≡◌, ℕ, List, Option, length, get_or, subst, arith, rules, refl, ◌∙◌}
use Rattle.simplex_disk.specs.Calls.{Leave, bytes_of}
use Rattle.simplex_disk.specs.Contents.{Any}
use Rattle.simplex_disk.specs.Stopping.{OpensFirst}
use Rattle.simplex_disk.proofs.Moments.{none_of}
use Rattle.simplex_disk.proofs.Steps.{leave_so_far}
use Rattle.simplex_disk.proofs.Stops.{opens_start, gate_long, gate_opened}
use Rattle.simplex_disk.proofs.stopping.leave_open.Goals as goal

pub loop-place-init : goal.loop-place-init
loop-place-init g c = record {
  opens = λ H st S P w. record { now = H; stands = st; held = none_of c.args.file Any H tt; holds = opens_start c.args.file S P c.args.gates.now H w };
  within = omega arith;
  faults = refl;
  order = search rules;
}

pub leave-requires : goal.leave-requires
leave-requires g c =
    let H0 = c.requires.0 in
    let r = c.requires.2 in
    let n = c.args.file in
    let i = c.loop-place.place-index in
    let o = c.loop-place.invariant.opens H0 c.requires.1 r.0 r.1 r.2 in
    let place = get_or c.args.gates.now i 0 in
    subst (λ (x : Option (List ℕ)). place < length (bytes_of x)) (g.met.D.Disk.reads c.loop-place.disk o.now o.stands n)
    (gate_long n r.0 r.1 c.args.gates.now i H0 o.now r.2 c.loop-place-test.true o.holds)

pub loop-place-preserved : goal.loop-place-preserved
loop-place-preserved g c = record {
  opens = λ H0 st S P w.
      let n = c.args.file in
      let i = c.loop-place.place-index in
      let o = c.loop-place.invariant.opens H0 st S P w in
      let place = get_or c.args.gates.now i 0 in
      record {
        now = Leave n place 1 ∷ o.now;
        stands = c.leave.ensures.stands o.now o.stands;
        held = leave_so_far n Any H0 o.now o.held place 1 tt;
        holds = gate_opened n S P c.args.gates.now i H0 o.now w c.loop-place-test.true o.holds;
      };
  within = omega (arith, c.loop-place-test.true);
  faults = c.leave.ensures.faults ∙ c.loop-place.invariant.faults;
  order = search rules;
}

pub returns-clause-stands : goal.returns-clause-stands
returns-clause-stands g c = λ H0 st S P w.
    let o = c.loop-place.invariant.opens H0 st S P w in
    let all : c.loop-place.place-index ≡ length c.args.gates.now = omega (arith, c.loop-place-test.false, c.loop-place.invariant.within) in
    record { now = o.now; stands = o.stands; held = o.held; holds = subst (λ (k : ℕ). OpensFirst c.args.file S P k o.now) all o.holds }
