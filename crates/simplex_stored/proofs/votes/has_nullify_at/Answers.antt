use Rattle.std.proofs.Common.{◌≡◌, Some, rules, ap, sym, ◌∙◌}
use Rattle.std.specs.BTreeMap.{is_at}
use Rattle.std.specs.List.{list_any}
use Rattle.std.specs.Map.{lookup}
use Rattle.std.specs.Ordering.{nat_cmp}
use Rattle.std.proofs.lemmas.Result.{IfOk-weaker}
use Rattle.simplex_stored.specs.Before.{is_nullify}
use Rattle.simplex_stored.proofs.Kept.{kept-at}
use Rattle.simplex_stored.proofs.votes.has_nullify_at.Goals as goal

pub returns-in-Some : goal.returns-in-Some
returns-in-Some c =
    let p = is_nullify c.args.bytes.now in
    let test = is_at (nat_cmp c.args.section) in
    let found : lookup test c.args.sections.now.entries ≡ Some c.in-Some.lists.now = search rules in
    IfOk-weaker c.have_nullify.result _ _
    (λ has is true_so. kept-at p test c.args.sections.now.entries c.in-Some.lists.now found (ap (list_any p) (sym c.synced.ensures) ∙ sym is ∙ true_so))
    c.have_nullify.ensures
