use Rattle.std.proofs.Common.{rules, not, arith}
use Rattle.std.proofs.lemmas.Fn.{filter_same}
use Rattle.std.proofs.lemmas.Grind.{common_steps}
use Rattle.simplex_script.specs.declared.post.Parcel.{Parcel}
use Rattle.simplex_script.specs.Post.{is_for}
use Rattle.simplex_script.proofs.post.Post.miss.Goals as goal

pub returns-clause-waiting : goal.returns-clause-waiting
returns-clause-waiting c =
    let same = filter_same _ (λ (it : Parcel). not (is_for c.args.nodes.now it)) _ (λ x b f' t. search rules) _ _ c.retain.ensures.filtered in
    grind (arith, common_steps, same)
