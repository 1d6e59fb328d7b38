use Rattle.std.proofs.Common.{◌≡◌, ◌∙◌, sym, ap, subst, ◌+◌, Some, None, ◌∷◌}
use Rattle.simplex_mocks.specs.Drawing.{answers_of}
use Rattle.std.specs.Prelude.{IfOk}
use Rattle.model_faults.specs.Words.{Draws}
use Rattle.model_faults.specs.Equivocator.{Made, equivocator_drew}
use Rattle.simplex_mocks.specs.Equivocating.{speaker}
use Rattle.simplex_mocks.proofs.Speaking.{not_answered, is_answered, heard_more}
use Rattle.simplex_mocks.proofs.Standing.{stands_made, stands_draws, stands_on, on_ok, three_words, round_of}
use Rattle.simplex_mocks.proofs.equivocator.Equivocator.answer.Goals as goal

pub returns-in-None-clause-sends : goal.returns-in-None-clause-sends
returns-in-None-clause-sends g c made before heard e stands =
    let s : speaker made before c.args.parent.now ≡ None = sym (c.in_ok-speaker.ensures.who made before stands) ∙ c.in-None.is in
    c.new.ensures ∙ sym ((not_answered made before heard c.args.parent.now e s).sends)

pub returns-in-None-clause-stands : goal.returns-in-None-clause-stands
returns-in-None-clause-stands g c made before heard e stands =
    let s : speaker made before c.args.parent.now ≡ None = sym (c.in_ok-speaker.ensures.who made before stands) ∙ c.in-None.is in
    stands_on g.S.Scheme.attests g.S.Scheme.member g.S.Scheme.members g.L.Elector.elects c.args.self.now c.speaker.new.self made before (heard ∷ before)
    c.in_ok-speaker.ensures.scheme c.in_ok-speaker.ensures.elector c.in_ok-speaker.ensures.epoch stands
    (λ view. c.in_ok-speaker.ensures.heard made before stands view ∙ sym (heard_more before heard c.args.parent.now view e))
    (subst (λ n. Draws (answers_of c.speaker.new.self.random) made.words n) (sym ((not_answered made before heard c.args.parent.now e s).drew))
    (subst (λ r. Draws (answers_of r) made.words (equivocator_drew made before)) (sym c.in_ok-speaker.ensures.random)
    (stands_draws g.S.Scheme.attests g.S.Scheme.member g.S.Scheme.members g.L.Elector.elects c.args.self.now made before stands)))

pub returns-in-Some-clause-sends : goal.returns-in-Some-clause-sends
returns-in-Some-clause-sends g c made before heard e stands =
    let s : speaker made before c.args.parent.now ≡ Some c.in-Some.me = sym (c.in_ok-speaker.ensures.who made before stands) ∙ c.in-Some.is in
    let m = stands_made g.S.Scheme.attests g.S.Scheme.member g.S.Scheme.members g.L.Elector.elects c.args.self.now made before stands in
    let at = equivocator_drew made before in
    let draws : Draws (answers_of c.speaker.new.self.random) made.words (equivocator_drew made before)
    = subst (λ r. Draws (answers_of r) made.words (equivocator_drew made before)) (sym c.in_ok-speaker.ensures.random)
    (stands_draws g.S.Scheme.attests g.S.Scheme.member g.S.Scheme.members g.L.Elector.elects c.args.self.now made before stands) in
    let d = c.draw_three-words.ensures in
    subst (λ target. IfOk c.equivocate.result (λ sent. sent ≡ target))
    (three_words made c.in-Some.me c.args.parent.now _ _ _ (made.words at) (made.words (at + 1)) (made.words (at + 2))
    (d.first made.words at draws) (d.second made.words at draws) (d.third made.words at draws)
    ∙ sym ((is_answered made before heard c.args.parent.now c.in-Some.me e s).sends))
    (c.equivocate.ensures made
    (ap (λ (x : Made). x.attests) m ∙ ap g.S.Scheme.attests (sym c.in_ok-speaker.ensures.scheme))
    (ap (λ (x : Made). x.members) m ∙ ap g.S.Scheme.members (sym c.in_ok-speaker.ensures.scheme))
    (c.next_round-round.ensures ∙ round_of made c.speaker.new.self.epoch c.args.parent.now.round.view (ap (λ (x : Made). x.epoch) m ∙ sym c.in_ok-speaker.ensures.epoch)))

pub returns-in-Some-clause-stands : goal.returns-in-Some-clause-stands
returns-in-Some-clause-stands g c made before heard e stands =
    let s : speaker made before c.args.parent.now ≡ Some c.in-Some.me = sym (c.in_ok-speaker.ensures.who made before stands) ∙ c.in-Some.is in
    let draws : Draws (answers_of c.speaker.new.self.random) made.words (equivocator_drew made before)
    = subst (λ r. Draws (answers_of r) made.words (equivocator_drew made before)) (sym c.in_ok-speaker.ensures.random)
    (stands_draws g.S.Scheme.attests g.S.Scheme.member g.S.Scheme.members g.L.Elector.elects c.args.self.now made before stands) in
    on_ok c.equivocate.result _
    (stands_on g.S.Scheme.attests g.S.Scheme.member g.S.Scheme.members g.L.Elector.elects c.args.self.now
    (record { scheme = c.speaker.new.self.scheme; elector = c.speaker.new.self.elector; epoch = c.speaker.new.self.epoch; random = c.draw_three-words.new.random; heard = c.speaker.new.self.heard })
    made before (heard ∷ before)
    c.in_ok-speaker.ensures.scheme c.in_ok-speaker.ensures.elector c.in_ok-speaker.ensures.epoch stands
    (λ view. c.in_ok-speaker.ensures.heard made before stands view ∙ sym (heard_more before heard c.args.parent.now view e))
    (subst (λ n. Draws (answers_of c.draw_three-words.new.random) made.words n) (sym ((is_answered made before heard c.args.parent.now c.in-Some.me e s).drew))
    (c.draw_three-words.ensures.later made.words (equivocator_drew made before) draws)))
