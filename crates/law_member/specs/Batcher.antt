-- What a batcher was told last.
use Rattle.std.specs.Prelude.{ℕ, List, Option, Some, None}
use Rattle.simplex_messages.specs.declared.batcher.BatcherInput.{BatcherInput}
use Rattle.simplex_messages.specs.declared.batcher.BatcherInput.TheVariants as input
use Rattle.simplex_messages.specs.declared.batcher.Message.TheVariants as batcher
use Rattle.model_rules.specs.Lists.{last_of}
use Rattle.model_steps.specs.Batcher.{Timed}

-- the view that the voter is in, its leader, and the last final view
pub record Told : Type 0 where
  pub current : ℕ
  pub leader : ℕ
  pub finalized : ℕ

-- what an update tells
abbrev pub told_by : BatcherInput → Option Told
told_by (input.Mail (batcher.Update current leader finalized proposal)) =
    Some (record { current = current; leader = leader; finalized = finalized })
told_by _ = None

-- what the last update among these told
unfoldable pub last_told : List Timed → Option Told
last_told past = last_of (λ given. told_by given.input) past
