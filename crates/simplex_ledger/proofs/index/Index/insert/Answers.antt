use Rattle.std.proofs.Common.{Some, Bool, ap, ◌∙◌}
use Rattle.std.specs.Prelude.{if◌then◌else◌}
use Rattle.std.proofs.lemmas.Map.Text.{is_eq-slice_cmp}
use Rattle.simplex_ledger.specs.Index.{found_at}
use Rattle.simplex_ledger.proofs.index.Index.insert.Goals as goal

pub returns : goal.returns
unfolding found_at
returns c = λ q. c.in_ok-insert.ensures.updates.0 q ∙ ap (λ (b : Bool). if b then Some c.args.found else found_at c.args.self.now q) (is_eq-slice_cmp c.args.digest q)
