use Rattle.std.proofs.Common.{rules, not, arith}
use Rattle.std.proofs.lemmas.Fn.{filter_same}
use Rattle.std.proofs.lemmas.Grind.{common_steps}
use Rattle.simplex_script.specs.declared.post.Parcel.{Parcel}
use Rattle.simplex_script.specs.Post.{is_same_parcel}
use Rattle.simplex_script.proofs.post.Post.lose.Goals as goal

pub returns-clause-waiting : goal.returns-clause-waiting
returns-clause-waiting c =
    let same = filter_same _ (λ (it : Parcel). not (is_same_parcel it c.args.parcel.now)) _ (λ x b f' t. search rules) _ _ c.retain.ensures.filtered in
    grind (arith, common_steps, same)
