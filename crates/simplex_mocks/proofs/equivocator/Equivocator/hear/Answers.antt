use Rattle.std.proofs.Common.{◌≡◌, ◌∙◌, sym, refl, subst, None, ◌∷◌}
use Rattle.simplex_mocks.specs.Drawing.{answers_of}
use Rattle.model_faults.specs.Words.{Draws}
use Rattle.model_faults.specs.Heard.{Heard, certificate_heard}
use Rattle.model_faults.specs.Equivocator.{proposal_in}
use Rattle.simplex_mocks.proofs.Speaking.{none_heard, heard_same}
use Rattle.simplex_mocks.proofs.Standing.{stands_draws, stands_heard, stands_on}
use Rattle.simplex_mocks.proofs.equivocator.Equivocator.hear.Goals as goal

pub returns-in-None-clause-sends : goal.returns-in-None-clause-sends
returns-in-None-clause-sends g c made before stands =
    let heard : Heard = record { channel = c.args.channel; bytes = c.args.bytes.now } in
    let e : proposal_in (certificate_heard heard) ≡ None = sym c.in_ok-heard_proposal.ensures ∙ c.in-None.is in
    c.new.ensures ∙ sym ((none_heard made before heard e).sends)

pub returns-in-None-clause-stands : goal.returns-in-None-clause-stands
returns-in-None-clause-stands g c made before stands =
    let heard : Heard = record { channel = c.args.channel; bytes = c.args.bytes.now } in
    let e : proposal_in (certificate_heard heard) ≡ None = sym c.in_ok-heard_proposal.ensures ∙ c.in-None.is in
    stands_on g.S.Scheme.attests g.S.Scheme.member g.S.Scheme.members g.L.Elector.elects c.args.self.now c.args.self.now made before (heard ∷ before)
    refl refl refl stands
    (λ view. stands_heard g.S.Scheme.attests g.S.Scheme.member g.S.Scheme.members g.L.Elector.elects c.args.self.now made before stands view ∙ sym (heard_same before heard view e))
    (subst (λ n. Draws (answers_of c.args.self.now.random) made.words n) (sym ((none_heard made before heard e).drew))
    (stands_draws g.S.Scheme.attests g.S.Scheme.member g.S.Scheme.members g.L.Elector.elects c.args.self.now made before stands))
