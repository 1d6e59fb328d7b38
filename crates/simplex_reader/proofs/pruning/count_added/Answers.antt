use Rattle.std.proofs.Common.{List, subst}
use Rattle.simplex_wire.specs.declared.certificate.Certificate.{Certificate}
use Rattle.simplex_messages.specs.declared.voter.Message.TheVariants as mail
use Rattle.model_audit.specs.Taking.{Mail}
use Rattle.simplex_due.specs.Due.{Steps}
use Rattle.simplex_reader.proofs.Counted.{counts_added}
use Rattle.simplex_reader.proofs.pruning.count_added.Goals as goal

pub returns-in-Ok : goal.returns-in-Ok
returns-in-Ok g c =
    counts_added _ _ _ c.args.certificate.now c.in-Ok.due c.count.result c.count.ensures.due c.count.ensures.few
    (subst (λ (added : List Certificate). Steps c.args.known.now c.on_certificate.new.known (g.S.Scheme.attests c.args.scheme.now) added (Mail (mail.Verified c.args.certificate.now)) c.in-Ok.due)
    c.from_ref.ensures.value c.in-Ok.ensures)
