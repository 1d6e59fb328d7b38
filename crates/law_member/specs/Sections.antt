-- Which section of the journal a step writes to.
use Rattle.std.specs.Prelude.{ℕ, ◌≡◌, Option, Some}
use Rattle.std.specs.Option.{option_and_then}
use Rattle.simplex_wire.specs.Fields.{artifact_round}
use Rattle.simplex_messages.specs.declared.call.Call.{Call}
use Rattle.simplex_messages.specs.declared.call.Call.TheVariants as calls
use Rattle.simplex_messages.specs.declared.voter.VoterInput.{VoterInput}
use Rattle.model_rules.specs.Known.{Made}
use Rattle.model_steps.specs.Voter.{Standing, acted}

-- the view that a step touches; none where it ends before its end
unfoldable pub touched_view : Made → ℕ → Standing → VoterInput → Option ℕ
touched_view made now standing input = option_and_then (λ outcome. outcome.1) (acted made now standing input)

-- a record that is appended is of the touched view, and goes to that view's section; a sync is of that section
abbrev pub IsOfSection : Option ℕ → Call → Type 0
IsOfSection touched (calls.Append section artifact) =
    (touched ≡ Some section) × ((artifact_round artifact).view ≡ section)
IsOfSection touched (calls.Sync section) = touched ≡ Some section
IsOfSection touched _ = Unit {0}
