use Rattle.std.proofs.Common.{rules, arith, refl, ◌≡◌}
use Rattle.std.proofs.lemmas.Grind.{common_steps}
use Rattle.simplex_round.proofs.Marks.{marked_values}
use Rattle.simplex_round.specs.contracts.ballots.fn.Ballots.mark.retain as closure
use Rattle.simplex_round.proofs.ballots.Ballots.mark.Goals as goal

pub returns : goal.returns
returns c =
    let h = marked_values _ (λ g. (closure.captures g).subject.now ≡ c.args.subject.now) (λ g. (closure.captures g).left.now) c.args.subject.now (λ g k v b w g' i t. search rules) _ _ _ refl c.retain.ensures.filtered in
    grind (arith, common_steps, h, c.self.view_is)

pub invariant_of-self : goal.invariant_of-self
invariant_of-self c =
    let h = marked_values _ (λ g. (closure.captures g).subject.now ≡ c.args.subject.now) (λ g. (closure.captures g).left.now) c.args.subject.now (λ g k v b w g' i t. search rules) _ _ _ refl c.retain.ensures.filtered in
    h.0 c.self.invariant
