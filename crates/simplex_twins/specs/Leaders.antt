-- Scripted leaders.
use Rattle.std.specs.Prelude.{ℕ, List, nat_lt, Bool, slice_get, unwrap_or}
use Rattle.std.specs.List.{list_all}
use Rattle.simplex_values.specs.declared.round.Round.{Round}
use Rattle.simplex_twins.specs.Script.{round_index}

-- the leaders of the first terms, who leads behind them, and among how many members at least all of these are
pub record Leading (C : Type 0) : Type 0 where
  pub leaders : List ℕ
  pub fallback : C
  pub members : ℕ

-- the scripted leader of the round's term, and behind the script the leader that is elected without it
unfoldable pub scripted_leader : List ℕ → ℕ → (Round → ℕ) → Round → ℕ
scripted_leader leaders length elects round =
    unwrap_or (slice_get leaders (round_index length round.view)) (elects round)

-- whether each leader is one of n members
abbrev pub are_members : List ℕ → ℕ → Bool
are_members leaders n = list_all (λ leader. nat_lt leader n) leaders
