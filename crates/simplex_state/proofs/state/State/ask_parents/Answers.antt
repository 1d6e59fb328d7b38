use Rattle.std.proofs.Common.{arith, ap, sym, ◌-◌, ◌++◌, map, drop}
use Rattle.model_rules.specs.declared.request.CertificateFetch.{CertificateFetch}
use Rattle.model_rules.specs.Known.{ParentAsked}
use Rattle.simplex_state.specs.Stands.{Keeps}
use Rattle.simplex_state.proofs.Waiting.{marked_more, marked_first, marked_all}
use Rattle.simplex_state.proofs.state.State.ask_parents.Goals as goal

pub loop-left-init : goal.loop-left-init
loop-left-init g c = record {
  within = omega arith;
  keeps = λ made known k. marked_first (Keeps _ made) (λ (f : CertificateFetch). ParentAsked f.proposal) c.args.fetches.now _ known (omega arith) k;
}

pub loop-left-preserved : goal.loop-left-preserved
loop-left-preserved g c = record {
  within = omega arith;
  keeps = λ made known k.
      marked_more (Keeps _ made) (λ (f : CertificateFetch). ParentAsked f.proposal) c.args.fetches.now c.loop-left.left (c.loop-left.left - 1) known c.index-fetches-left.result _
      (omega arith) (omega arith) c.index-fetches-left.is (ap (λ (f : CertificateFetch). ParentAsked f.proposal) (sym c.index-fetches-left.is))
      (c.in_ok-mark_parent.ensures made (map (λ (f : CertificateFetch). ParentAsked f.proposal) (drop c.loop-left.left c.args.fetches.now) ++ known) (c.loop-left.invariant.keeps made known k));
}

pub returns : goal.returns
returns g c = λ made known k.
    marked_all (Keeps _ made) (λ (f : CertificateFetch). ParentAsked f.proposal) c.args.fetches.now c.loop-left.left known (omega arith) (c.loop-left.invariant.keeps made known k)
