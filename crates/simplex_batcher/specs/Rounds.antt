-- The batcher's maps, and the histories of the rounds in them.
use Rattle.std.specs.Prelude.{◌≡◌, ℕ, ◌==◌, Option, Some, None, if◌then◌else◌}
use Rattle.std.specs.Option.{option_map_or}
use Rattle.std.specs.Ordering.{nat_cmp}
use Rattle.std.specs.BTreeMap as tree
use Rattle.std.specs.BTreeMap.{BTreeMap}
use Rattle.simplex_round.specs.Known.{Made, Known, Standing}
use Rattle.simplex_round.specs.Calls.{Call, SetLeader}
use Rattle.model_steps.specs.Batcher.{RoundHistory, known_in, called}
use Rattle.simplex_batcher.specs.declared.rounds.Rounds.{Rounds}

-- what the map has at a number
unfoldable pub found : {V : Type 0} → BTreeMap ℕ V → ℕ → Option V
found values number = tree.get nat_cmp values number

-- the round of the view, if there is one
unfoldable pub round_at : Rounds → ℕ → Option Standing
round_at rounds view = if view == rounds.current then rounds.here else found rounds.others view

-- the round as it stands behind the calls of its history
unfoldable pub round_of : RoundHistory → Standing
round_of history = record { made = history.made; known = known_in history }

-- the history with the leader behind it, if there is one
abbrev pub given : Option ℕ → RoundHistory → RoundHistory
given leader history = option_map_or (λ it. called (SetLeader it) history) leader history

-- whatever history the round of the view has, it has this one now, and the others stay
abbrev pub ChangesAt : (ℕ → Option Standing) → (ℕ → Option Standing) → ℕ → (RoundHistory → RoundHistory) → Type 0
ChangesAt old new view change =
    (history : RoundHistory) → old view ≡ Some (round_of history)
    → (q : ℕ) → new q ≡ (if q == view then Some (round_of (change history)) else old q)

-- whatever history the round of the view has, it has it with the call behind it, and the others stay
abbrev pub TakesAt : (ℕ → Option Standing) → (ℕ → Option Standing) → ℕ → Call → Type 0
TakesAt old new view call =
    (history : RoundHistory) → old view ≡ Some (round_of history)
    → (q : ℕ) → new q ≡ (if q == view then Some (round_of (called call history)) else old q)

-- where the view has no round, all stay
abbrev pub StaysWithout : (ℕ → Option Standing) → (ℕ → Option Standing) → ℕ → Type 0
StaysWithout old new view = old view ≡ None → (q : ℕ) → new q ≡ old q

-- whatever history the round of the view has, the answer is the rule's
abbrev pub AnswersAt : {R : Type 0} → (ℕ → Option Standing) → ℕ → (Made → Known → R) → R → Type 0
AnswersAt rounds view rule answer =
    (history : RoundHistory) → rounds view ≡ Some (round_of history) → answer ≡ rule history.made (known_in history)

-- the same, where the rule goes by the history
abbrev pub HistoryAnswersAt : {R : Type 0} → (ℕ → Option Standing) → ℕ → (RoundHistory → R) → R → Type 0
HistoryAnswersAt rounds view rule answer =
    (history : RoundHistory) → rounds view ≡ Some (round_of history) → answer ≡ rule history
