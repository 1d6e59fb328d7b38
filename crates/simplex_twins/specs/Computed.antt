-- A name for what a clause unfolds to compute a sample.
use Rattle.std.specs.Prelude.{⊤}
use Rattle.simplex_twins.specs.Every.{every_round, every_script, with_leader, with_leaders, with_primary}
use Rattle.simplex_twins.specs.Faults.{fault_of, has_bad_leader}
use Rattle.simplex_twins.specs.Leaders.{scripted_leader}
use Rattle.simplex_twins.specs.Masks.{has, reaches}
use Rattle.simplex_twins.specs.Partitions.{cut_at, partitions, view_partitions}
use Rattle.simplex_twins.specs.Routes.{route, view_route}
use Rattle.simplex_twins.specs.Script.{round_at, round_index}
use Rattle.simplex_values.specs.Terms.{term_index, term_start}

-- what the scripts of twins cut and route
unfoldable pub scripts : ⊤
unfolding has reaches round_index round_at fault_of has_bad_leader partitions cut_at view_partitions route view_route scripted_leader with_primary with_leader with_leaders every_round every_script term_index term_start
scripts = tt
