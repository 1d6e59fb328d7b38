-- Leaders of a setup, as its elector elects them.
use Rattle.std.proofs.Common.{◌≡◌, ◌∙◌, ap, refl, ℕ, zero, suc, nat_lt, nat_le, ◌&&◌, Bool, true, false, List, [], ◌∷◌, length, map, arith}
use mathlib.Core.Path.{fun_ext}
use Rattle.std.specs.Prelude.{slice_get, unwrap_or}
use Rattle.std.specs.List.{list_all}
use Rattle.std.specs.Option.{option_map_or}
use Rattle.std.proofs.lemmas.Grind.{common_steps}
use Rattle.simplex_values.specs.declared.round.Round.{Round}
use Rattle.simplex_types.specs.RoundRobin.{leader_of}
use Rattle.simplex_transcript.specs.declared.setup.Setup.{Setup}
use Rattle.simplex_transcript.specs.declared.setup.SetupRound.{SetupRound}
use Rattle.model_run.specs.Setups.{is_round}
use Rattle.model_run.specs.Twins.{round_at, elected}
use Rattle.simplex_twins.specs.Script.{round_index}
use Rattle.simplex_twins.specs.Leaders.{scripted_leader}
use Rattle.simplex_twins.specs.Faults.{has_bad_leader}
use Rattle.simplex_members.specs.Scripts.{round_in}

leader_at : (rounds : List SetupRound) (place otherwise : ℕ)
    → unwrap_or (slice_get (map (λ r. r.leader) rounds) place) otherwise ≡ option_map_or (λ r. r.leader) (slice_get rounds place) otherwise
leader_at [] place otherwise = refl
leader_at (r ∷ rounds) zero otherwise = refl
leader_at (r ∷ rounds) (suc place) otherwise = leader_at rounds place otherwise

elected_at : (setup : Setup) (round : Round)
    → scripted_leader (map (λ r. r.leader) setup.scenario) setup.term (leader_of setup.term (length setup.members)) round ≡ elected setup round
unfolding scripted_leader elected round_at round_index
elected_at setup round = leader_at setup.scenario _ _

pub elected_as_scripted : (setup : Setup) (leaders : List ℕ) → leaders ≡ map (λ r. r.leader) setup.scenario
    → scripted_leader leaders setup.term (leader_of setup.term (length setup.members)) ≡ elected setup
elected_as_scripted setup leaders e =
    ap (λ ls. scripted_leader ls setup.term (leader_of setup.term (length setup.members))) e ∙ fun_ext (elected_at setup)

-- the leaders of the script are those of the setup
pub leaders_in : (rounds : List SetupRound) → map (λ r. r.leader) (map round_in rounds) ≡ map (λ r. r.leader) rounds
leaders_in [] = refl
leaders_in (r ∷ rounds) = ap (λ ls. r.leader ∷ ls) (leaders_in rounds)

both : (a b : Bool) → (a && b) ≡ true → (a ≡ true) × (b ≡ true)
both true b e = (refl, e)
both false b e = absurd (cc)

first_of : (a b c d : Bool) → (a && b && c && d) ≡ true → a ≡ true
first_of true b c d e = refl
first_of false b c d e = absurd (cc)

is_member : (n leader : ℕ) → nat_lt leader n ≡ true → nat_le n leader ≡ false
is_member n leader e = grind (arith, common_steps)

-- and all of them are members
pub no_bad_leader : (n : ℕ) (rounds : List SetupRound) → list_all (is_round n) rounds ≡ true → has_bad_leader (map round_in rounds) n ≡ false
unfolding has_bad_leader
no_bad_leader n [] e = refl
no_bad_leader n (r ∷ rounds) e =
    let here = both (is_round n r) (list_all (is_round n) rounds) e in
    rw (is_member n r.leader (first_of _ _ _ _ here.0)) (no_bad_leader n rounds here.1)

pub ruleset electing = (leaders_in, no_bad_leader)
