use Rattle.std.proofs.Common.{◌==◌, ◌&&◌, rules, not, arith}
use Rattle.std.specs.List.{list_any}
use Rattle.std.proofs.lemmas.Fn.{filter_same}
use Rattle.std.proofs.lemmas.Grind.{common_steps}
use Rattle.model_run.specs.Kinds.{is_same_node}
use Rattle.simplex_generator.specs.declared.unanswered.Unanswered.{Unanswered}
use Rattle.simplex_generator.proofs.unanswered.drop_requests.Goals as goal

pub returns : goal.returns
returns c =
    let same = filter_same _ (λ (it : Unanswered). not (is_same_node c.args.node it.node && list_any (λ number. number == it.number) c.args.numbers.now)) _ (λ x b f' t. search rules) _ _ c.retain.ensures.filtered in
    grind (arith, common_steps, same)
