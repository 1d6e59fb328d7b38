use Rattle.std.proofs.Common.{refl, sym, ◌∙◌}
use Rattle.simplex_conflicts.proofs.Clashing.{takes_bad, takes_good}
use Rattle.simplex_conflicts.proofs.Tests.{if_ok_both}
use Rattle.simplex_conflicts.proofs.standing.Standing.take_one.Goals as goal

pub returns-then-verify_certificate : goal.returns-then-verify_certificate
returns-then-verify_certificate c = if_ok_both c.take.result
    (λ conflict answer stands certificate says has.
    takes_good c.args.self.now certificate c.args.subject.now c.args.signatures.now conflict (sym c.verify_certificate.ensures ∙ c.if-verify_certificate.true)
    answer says has _ refl c.take.ensures.length stands)
    c.take.ensures.answer c.take.ensures.stands

pub returns-else-verify_certificate : goal.returns-else-verify_certificate
returns-else-verify_certificate c = λ certificate says has.
    takes_bad c.args.self.now certificate c.args.subject.now c.args.signatures.now (sym c.verify_certificate.ensures ∙ c.if-verify_certificate.false) says has
