use Rattle.std.proofs.Common.{◌≡◌, ◌==◌, false, ◌≤◌, ◌<◌, ◌∙◌, ap, sym, arith}
use Rattle.std.proofs.lemmas.Grind.{common_steps}
use Rattle.std.proofs.lemmas.Bool.Decides.{nat_tests}
use Rattle.simplex_values.specs.Terms.{admission_limit}
use Rattle.model_steps.specs.Batcher.{Made}
use Rattle.simplex_batcher.specs.Rounds.{found}
use Rattle.simplex_batcher.specs.Stands.{batcher_made}
use Rattle.simplex_batcher.proofs.Apart.{apart-is}
use Rattle.simplex_batcher.proofs.Updating.{window-empty, window-found}
use Rattle.simplex_batcher.proofs.actor.Actor.window_views.Goals as goal

pub returns-then-le : goal.returns-then-le
unfolding batcher_made
returns-then-le g c = λ made standing s.
    let none : c.admission_limit-limit.result ≤ c.args.self.now.rounds.current = grind (arith, common_steps, c.le.ensures, c.if-le.true) in
    c.new.ensures.items ∙ window-empty made standing c.args.self.now.rounds.current c.admission_limit-limit.result s.current_is
    (c.admission_limit-limit.ensures ∙ sym (ap (λ (m : Made). admission_limit m.lookahead.length m.lookahead.views c.args.self.now.rounds.current) s.made_is) ∙ sym (ap (admission_limit made.lookahead.length made.lookahead.views) s.current_is))
    none

pub returns : goal.returns
unfolding batcher_made found
returns g c = λ made standing s.
    let more : c.args.self.now.rounds.current < c.admission_limit-limit.result = grind (arith, common_steps, c.le.ensures, c.if-le.false) in
    (rw (c.current.view_is, c.limit.view_is) at c.in_ok-views.ensures.views)
    ∙ window-found made standing c.args.self.now.rounds.current c.admission_limit-limit.result c.args.self.now.rounds.others.entries s.current_is
    (c.admission_limit-limit.ensures ∙ sym (ap (λ (m : Made). admission_limit m.lookahead.length m.lookahead.views c.args.self.now.rounds.current) s.made_is) ∙ sym (ap (admission_limit made.lookahead.length made.lookahead.views) s.current_is))
    more c.in_ok-views.ensures.rising
    (λ q after. let apart : (q == c.args.self.now.rounds.current) ≡ false = grind (arith, common_steps, nat_tests) in
    sym (apart-is c.args.self.now.rounds q apart) ∙ s.round_is q)
