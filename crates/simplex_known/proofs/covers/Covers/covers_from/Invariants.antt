use Rattle.std.proofs.Common.{◌≡◌, ◌-◌, ◌≤◌}
use Rattle.simplex_state.specs.Stands.{covered_in}
use Rattle.simplex_known.specs.Covers.{are_whole}
use Rattle.simplex_known.proofs.Spanning.{is_spanned}
use Rattle.simplex_known.proofs.covers.Covers.covers_from.Given as goal

abbrev pub invariant-loop-end : goal.invariant-loop-end
invariant-loop-end l =
    (l.fn.first ≤ l.view)
    × (are_whole l.self.whole l.self.least l.self.length l.fn.first
    → is_spanned (λ v. covered_in l.self.length l.self.least v) l.view l.end ≡ is_spanned (λ v. covered_in l.self.length l.self.least v) l.fn.first l.end)

abbrev pub decreases-loop-end : goal.decreases-loop-end
decreases-loop-end l = l.end - l.view
