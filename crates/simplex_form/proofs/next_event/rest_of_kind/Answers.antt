use Rattle.std.proofs.Common.{◌≡◌, codes, rules}
use Rattle.serde_json.specs.Data.{string}
use Rattle.serde_json.specs.View.{view}
use Rattle.serde_json.specs.declared.value.Value.{String, the_lemmas}
use Rattle.simplex_form.proofs.next_event.rest_of_kind.Goals as goal

pub returns-then-is_same : goal.returns-then-is_same
returns-then-is_same c =
    let same : c.args.kind.now ≡ codes "deliver" = c.is_same.ensures c.if-is_same.true in
    rw same c.rest_of_delivery.ensures

pub returns-then-is_same-2 : goal.returns-then-is_same-2
returns-then-is_same-2 c =
    let same : c.args.kind.now ≡ codes "step" = c.is_same-2.ensures c.if-is_same-2.true in
    rw same c.rest_of_step.ensures

pub returns : goal.returns
returns c =
    let seen : view (String c.in_ok-from_str.field-0) ≡ string c.args.kind.now = search (rules, the_lemmas) in
    rw (← seen) c.rest_of_any.ensures
