use Rattle.std.proofs.Common.{rules, not, arith}
use Rattle.std.proofs.lemmas.Fn.{filter_same}
use Rattle.std.proofs.lemmas.Grind.{common_steps}
use Rattle.simplex_generator.specs.declared.unanswered.Unanswered.{Unanswered}
use Rattle.simplex_generator.specs.Unanswered.{is_ended_by}
use Rattle.simplex_generator.proofs.unanswered.Requests.end.Goals as goal

pub returns-clause-open : goal.returns-clause-open
returns-clause-open c =
    let same = filter_same _ (λ (it : Unanswered). not (is_ended_by c.args.event.now it)) _ (λ x b f' t. search rules) _ _ c.retain.ensures.filtered in
    grind (arith, common_steps, same)
