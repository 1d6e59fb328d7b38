use Rattle.std.proofs.Common.{◌≡◌, ℕ, take, Some, if◌then◌else◌}
use Rattle.std.specs.Prelude.{◌==◌}
use Rattle.std.specs.List.{list_any}
use Rattle.simplex_values.specs.Maps.{found}
use Rattle.simplex_case.proofs.desk.put_all.Given as goal

abbrev pub invariant-loop-number : goal.invariant-loop-number
invariant-loop-number l =
    (q : ℕ) → found l.map q ≡ (if list_any (λ n. n == q) (take l.number-index l.numbers) then Some l.value else found l.initial.map q)
