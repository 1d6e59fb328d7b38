use Rattle.std.proofs.Common.{rules, not, arith}
use Rattle.std.proofs.lemmas.Fn.{filter_same}
use Rattle.std.proofs.lemmas.Grind.{common_steps}
use Rattle.model_run.specs.Kinds.{is_same_node}
use Rattle.simplex_generator.specs.declared.unanswered.Count.{Count}
use Rattle.simplex_generator.proofs.Counts.{count_set}
use Rattle.simplex_generator.proofs.unanswered.set_count.Goals as goal

pub returns : goal.returns
returns c =
    let same = filter_same _ (λ (count : Count). not (is_same_node count.node c.args.node)) _ (λ x b f' t. search rules) _ _ c.retain.ensures.filtered in
    λ other. grind (arith, common_steps, same, count_set c.args.node other c.args.asked c.args.counts.now.items)
