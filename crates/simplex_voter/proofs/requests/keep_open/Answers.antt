use Rattle.std.proofs.Common.{rules, arith, nat_lt}
use Rattle.std.proofs.lemmas.Fn.{filter_same}
use Rattle.std.proofs.lemmas.Grind.{common_steps}
use Rattle.simplex_voter.specs.declared.request.OpenRequest.{OpenRequest}
use Rattle.simplex_voter.proofs.requests.keep_open.Goals as goal

pub returns : goal.returns
returns c =
    let same = filter_same _ (λ (r : OpenRequest). nat_lt c.args.finalized r.view) _ (λ x b f' t. search rules) _ _ c.retain.ensures.filtered in
    grind (arith, common_steps, same)
