use Rattle.std.proofs.Common.{arith, ap, ◌-◌, ◌++◌, map, drop}
use Rattle.model_rules.specs.Known.{CertifyAsked, view_of}
use Rattle.simplex_state.specs.Stands.{Keeps}
use Rattle.simplex_state.proofs.Waiting.{marked_more, marked_first, marked_all}
use Rattle.simplex_state.proofs.state.State.ask_certify.Goals as goal

pub loop-left-init : goal.loop-left-init
loop-left-init g c = record {
  within = omega arith;
  keeps = λ made known k. marked_first (Keeps _ made) (λ p. CertifyAsked (view_of p)) c.args.proposals.now _ known (omega arith) k;
}

pub loop-left-preserved : goal.loop-left-preserved
loop-left-preserved g c = record {
  within = omega arith;
  keeps = λ made known k.
      marked_more (Keeps _ made) (λ p. CertifyAsked (view_of p)) c.args.proposals.now c.loop-left.left (c.loop-left.left - 1) known c.index-proposals-left.result _
      (omega arith) (omega arith) c.index-proposals-left.is (ap CertifyAsked c.view.ensures)
      (c.in_ok-mark_certify.ensures made (map (λ p. CertifyAsked (view_of p)) (drop c.loop-left.left c.args.proposals.now) ++ known) (c.loop-left.invariant.keeps made known k));
}

pub returns : goal.returns
returns g c = λ made known k.
    marked_all (Keeps _ made) (λ p. CertifyAsked (view_of p)) c.args.proposals.now c.loop-left.left known (omega arith) (c.loop-left.invariant.keeps made known k)
