-- What a call of the journal that fails leaves.
use Rattle.std.specs.Prelude.{◌≡◌, ◌==◌, nat_lt, ℕ, Bool, true, false, List, Option, Some, None, if◌then◌else◌}
use Rattle.simplex_journal.specs.Journal.{Section, pruned_first}
use Rattle.simplex_messages.specs.declared.call.Call.{Call}
use Rattle.simplex_messages.specs.declared.step.Outcome.{Outcome}
use Rattle.simplex_messages.specs.declared.step.Outcome.TheVariants as outcomes
use Rattle.simplex_messages.specs.declared.step.Stop.TheVariants as stops
use Rattle.model_audit.specs.Journal.{after_failure}
use Rattle.simplex_reader.specs.declared.sections.RuledPrune.{RuledPrune}

abbrev pub is_failed : Outcome → Bool
is_failed outcomes.Journal = true
is_failed outcome = false

-- where the rules make this prune, and the journal's call of the number fails
abbrev pub failed_at : Option RuledPrune → ℕ → ℕ → List Section → List Section
failed_at None call keep sections = sections
failed_at (Some prune) call keep sections = if prune.number == call then pruned_first keep prune.least sections else sections

-- the prune of this number, where the least active view is above 0
abbrev pub prune_above : ℕ → ℕ → Option RuledPrune
prune_above number least = if nat_lt 0 least then Some (record { number = number; least = least }) else None

-- of the calls that the rules make this is the prune, if there is one
abbrev pub ArePrunedBy : List Call → Option RuledPrune → Type 0
ArePrunedBy ruled prune =
    (call keep : ℕ) (sections : List Section) → after_failure (stops.Fail call keep) ruled sections ≡ failed_at prune call keep sections
