-- The script of a run with twins: who leads, and which members each half of a twin talks with.
use Rattle.std.specs.Prelude.{ℕ, ◌-◌, ◌/◌, ◌%◌, ◌^◌, ◌==◌, Bool, true, slice_get, Option, if◌then◌else◌}
use Rattle.std.specs.Option.{option_map_or}
use Rattle.simplex_values.specs.declared.round.Round.{Round}
use Rattle.simplex_values.specs.Terms.{term_index}
use Rattle.simplex_types.specs.RoundRobin.{leader_of}
use Rattle.simplex_transcript.specs.declared.setup.Setup.{Setup}
use Rattle.simplex_transcript.specs.declared.setup.SetupRound.{SetupRound}
use Rattle.model_run.specs.Kinds.{members_of}

-- the scripted round of a view, if there is one: one for each term, and the first is that of view 0 too
unfoldable pub round_at : Setup → ℕ → Option SetupRound
round_at setup view = slice_get setup.scenario (term_index setup.term view - 1)

-- the scripted leader, then the leaders in turn
unfoldable pub elected : Setup → Round → ℕ
elected setup round = option_map_or (λ scripted. scripted.leader)
    (round_at setup round.view) (leader_of setup.term (members_of setup) round)

-- whether the mask has the bit of the member
abbrev pub is_in_mask : ℕ → ℕ → Bool
is_in_mask mask member = (mask / 2 ^ member) % 2 == 1

-- the mask of half 0, and of half 1
abbrev pub mask_of : ℕ → SetupRound → ℕ
mask_of half scripted = if half == 0 then scripted.primary else scripted.secondary

-- whether the member talks with this half of each twin at the view: behind the script every member does
unfoldable pub is_in_part : Setup → ℕ → ℕ → ℕ → Bool
is_in_part setup view half member =
    option_map_or (λ scripted. is_in_mask (mask_of half scripted) member) (round_at setup view) true
