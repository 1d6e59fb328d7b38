use Rattle.std.proofs.Common.{true, false, List, subst, sym}
use Rattle.simplex_wire.specs.declared.certificate.Certificate.{Certificate}
use Rattle.simplex_conflicts.specs.Standing.{TakesIn}
use Rattle.simplex_conflicts.proofs.Clashing.{alone, all_alone, takes_none, list_more, list_stop, list_end}
use Rattle.simplex_conflicts.proofs.standing.Standing.take_certificates.Goals as goal

pub loop-certificate-init : goal.loop-certificate-init
loop-certificate-init c = takes_none c.args.self.now

pub loop-certificate-preserved : goal.loop-certificate-preserved
loop-certificate-preserved c =
    list_more alone c.args.certificates.now c.loop-certificate.certificate-index c.certificate-item.result c.loop-certificate-test.true c.certificate-item.is
    c.args.self.now c.loop-certificate.self c.take_one.new.self c.loop-certificate.invariant c.in_ok-take_one.field-0 c.if-branch.false
    (c.in_ok-take_one.ensures c.certificate-item.result (sym c.subject.ensures) (sym c.signatures.ensures))

pub returns-then-branch : goal.returns-then-branch
returns-then-branch c =
    subst (λ (here : List Certificate). TakesIn c.args.self.now c.take_one.new.self here true) (all_alone c.args.certificates.now)
    (list_stop alone c.args.certificates.now c.loop-certificate.certificate-index c.certificate-item.result c.loop-certificate-test.true c.certificate-item.is
    c.args.self.now c.loop-certificate.self c.take_one.new.self c.loop-certificate.invariant c.in_ok-take_one.field-0 c.if-branch.true
    (c.in_ok-take_one.ensures c.certificate-item.result (sym c.subject.ensures) (sym c.signatures.ensures)))

pub returns : goal.returns
returns c =
    subst (λ (here : List Certificate). TakesIn c.args.self.now c.loop-certificate.self here false) (all_alone c.args.certificates.now)
    (list_end alone c.args.certificates.now c.loop-certificate.certificate-index c.loop-certificate-test.false
    c.args.self.now c.loop-certificate.self c.loop-certificate.invariant)
