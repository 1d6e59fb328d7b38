use Rattle.std.proofs.Common.{rules, arith, sym}
use Rattle.std.proofs.lemmas.Grind.{common_steps}
use Rattle.simplex_round.specs.Known.{side_of}
use Rattle.simplex_round.specs.Ballots.{marked}
use Rattle.simplex_round.specs.Assembly.{as_scheme, assembled_on}
use Rattle.simplex_round.proofs.Work.{worked, after_worked}
use Rattle.simplex_round.proofs.round.Round.construct_on.Goals as goal

pub returns-clause-known : goal.returns-clause-known
unfolding assembled_on
returns-clause-known g c =
    let scheme = as_scheme (g.S.Scheme.verifies c.args.scheme.now) (g.S.Scheme.recovers c.args.scheme.now) (g.S.Scheme.members c.args.scheme.now) in
    let ballots = side_of c.args.self.now.known c.args.kind in
    let f = c.in_ok-findings.findings in
    let w = worked c.args.self.now.made scheme c.args.kind c.args.subject.now ballots f.found.items c.len-processed.result f.invalid c.in_ok-certificate.certificate
    (search rules) (search rules) (search rules) (rw (sym c.side-2.ensures) c.in_ok-findings.ensures.invalid)
    (rw (sym c.side-2.ensures) grind (arith, common_steps, c.in_ok-findings.ensures.valid, c.in_ok-certificate.ensures, c.deref.ensures.value, c.self.view_is)) (search rules) in
    let after = after_worked c.args.self.now.known c.args.kind (marked c.args.subject.now ballots f.found.items) c.len-processed.result f.invalid c.in_ok-certificate.certificate _ w in
    grind (arith, common_steps, after, c.note.ensures, c.in_ok-held.ensures, c.deref-2.ensures.value)

pub returns-clause-answer : goal.returns-clause-answer
unfolding assembled_on
returns-clause-answer g c =
    let scheme = as_scheme (g.S.Scheme.verifies c.args.scheme.now) (g.S.Scheme.recovers c.args.scheme.now) (g.S.Scheme.members c.args.scheme.now) in
    let ballots = side_of c.args.self.now.known c.args.kind in
    let f = c.in_ok-findings.findings in
    let w = worked c.args.self.now.made scheme c.args.kind c.args.subject.now ballots f.found.items c.len-processed.result f.invalid c.in_ok-certificate.certificate
    (search rules) (search rules) (search rules) (rw (sym c.side-2.ensures) c.in_ok-findings.ensures.invalid)
    (rw (sym c.side-2.ensures) grind (arith, common_steps, c.in_ok-findings.ensures.valid, c.in_ok-certificate.ensures, c.deref.ensures.value, c.self.view_is)) (search rules) in
    rw w search rules
