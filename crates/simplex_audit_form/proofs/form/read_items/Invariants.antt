-- What was read, before what is still to be read, is what the whole list says.
use Rattle.std.proofs.Common.{◌≡◌, ◌+◌, length}
use Rattle.serde_json.specs.View.{items_view}
use Rattle.simplex_form.specs.Form.{prepended, list_from}
use Rattle.simplex_audit_form.proofs.form.read_items.Given as goal

abbrev pub invariant-loop-rest : goal.invariant-loop-rest
invariant-loop-rest g l = record {
  read : prepended l.items (list_from g.T.Form.of l.number (items_view l.rest)) ≡ list_from g.T.Form.of l.first (items_view l.values);
  count : l.number + length l.rest ≡ l.first + length l.values;
}

abbrev pub decreases-loop-rest : goal.decreases-loop-rest
decreases-loop-rest g l = length l.rest
