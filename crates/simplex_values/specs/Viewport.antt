-- Which views a member still cares for.
use Rattle.std.specs.Prelude.{ℕ, ◌-◌, ◌&&◌, nat_le, Bool}
use Rattle.simplex_values.specs.declared.viewport.Viewport.{Viewport}
use Rattle.simplex_values.specs.Terms.{admits}

-- whether the view is at least the last final one less the retention
abbrev pub retains : Viewport → ℕ → Bool
retains port view = nat_le (port.finalized - port.view_retention) view

-- whether the view is kept, and a vote of it is of use
abbrev pub admits_vote : Viewport → ℕ → Bool
admits_vote port view =
    retains port view && admits port.lookahead.length port.lookahead.views port.current view
