-- The script behind a script.
use Rattle.std.proofs.Common.{ℕ, suc, zero, ◌≡◌, ◌<◌, ◌≤◌, ◌+◌, ◌-◌, List, [], ◌∷◌, ◌++◌, map, length, take, drop, set, get_or, replicate, None, IsTrue, refl, ap, sym, ◌∙◌, arith, length-append}
use Rattle.std.proofs.lemmas.List.{length-replicate, length-drop, take-take, take-set, drop-set, get_or-take, take-append-drop}
use Rattle.std.proofs.Math.Seq.{drop-length, drop-cons}
use Rattle.std.proofs.lemmas.Nat.{pow_pos}
use Rattle.simplex_twins.specs.Masks.{has}
use Rattle.std.specs.List.{flat_map}
use Rattle.std.proofs.lemmas.Grind.{common_steps}
use Rattle.simplex_twins.specs.Script.{ScriptedRound, scripted}
use Rattle.simplex_twins.specs.Faults.{fault_of}
use Rattle.simplex_twins.specs.Every.{every_round, every_script, rounds_after, scripts_after, are_good, IsAmong}
use Rattle.simplex_twins.proofs.Walk.{from_start}
use Rattle.simplex_twins.proofs.Laters.{raised_is_first}

-- the first of every round, and of every script of so many rounds
abbrev pub first : ScriptedRound
first = scripted 0 0 1

abbrev pub firsts : ℕ → List ScriptedRound
firsts rounds = replicate rounds first

-- every round is the first, and those behind it
pub first_round : (n : ℕ) → 0 < n → (every_round n ≡ first ∷ rounds_after n first) × (fault_of first n ≡ None)
unfolding has
first_round n some =
    let start : IsAmong n (scripted 0 0 0) = record { leader = some; primary = pow_pos n; secondary = pow_pos n } in
    let jump = raised_is_first n (scripted 0 0 0) start refl in
    (from_start n some ∙ jump.0, jump.1)

-- the scripts of these first rounds, with every later script of so many rounds
abbrev pub each_with : ℕ → ℕ → List ScriptedRound → List (List ScriptedRound)
each_with n rounds firsts_of = flat_map (λ round. map (λ later. round ∷ later) (every_script n rounds)) firsts_of

-- every script is the first, and those behind it
pub first_script : (n rounds : ℕ) → 0 < n → every_script n rounds ≡ firsts rounds ∷ scripts_after n (firsts rounds)
unfolding every_script scripts_after
first_script n zero some = refl
first_script n (suc rounds) some =
    ap (each_with n rounds) (first_round n some).0
    ∙ ap (λ scripts. map (λ later. first ∷ later) scripts ++ each_with n rounds (rounds_after n first)) (first_script n rounds some)
    ∙ ap (λ k. (first ∷ firsts rounds) ∷ (map (λ later. first ∷ later) (scripts_after n (firsts rounds)) ++ each_with n k (rounds_after n first))) (sym (length-replicate rounds first))

-- where nothing is behind the later rounds, a round that comes next comes with the first later ones
pub later_at : (n : ℕ) (round next : ScriptedRound) (later : List ScriptedRound) → 0 < n → scripts_after n later ≡ [] → rounds_after n round ≡ next ∷ rounds_after n next → scripts_after n (round ∷ later) ≡ (next ∷ firsts (length later)) ∷ scripts_after n (next ∷ firsts (length later))
unfolding scripts_after
later_at n round next later some last steps =
    ap (λ scripts. map (λ script. round ∷ script) scripts ++ each_with n (length later) (rounds_after n round)) last
    ∙ ap (each_with n (length later)) steps
    ∙ ap (λ scripts. map (λ script. next ∷ script) scripts ++ each_with n (length later) (rounds_after n next)) (first_script n (length later) some)
    ∙ ap (λ k. (next ∷ firsts (length later)) ∷ (map (λ script. next ∷ script) (scripts_after n (firsts (length later))) ++ each_with n k (rounds_after n next))) (sym (length-replicate (length later) first))

-- where nothing is behind a round and behind the later ones, nothing is behind the script
pub none_at : (n : ℕ) (round : ScriptedRound) (later : List ScriptedRound) → scripts_after n later ≡ [] → rounds_after n round ≡ [] → scripts_after n (round ∷ later) ≡ []
unfolding scripts_after
none_at n round later last none = rw (last, none) refl

-- what comes next behind later rounds comes next with the same rounds before them
pub behind_rounds : (n : ℕ) (rounds later next : List ScriptedRound) → length later ≡ length next → scripts_after n later ≡ next ∷ scripts_after n next → scripts_after n (rounds ++ later) ≡ (rounds ++ next) ∷ scripts_after n (rounds ++ next)
unfolding scripts_after
behind_rounds n [] later next same steps = steps
behind_rounds n (round ∷ rounds) later next same steps =
    let lengths : length (rounds ++ later) ≡ length (rounds ++ next) = simp length-append (ap (λ k. length rounds + k) same) in
    rw (behind_rounds n rounds later next same steps, lengths) refl

-- each of good rounds is good
pub good_at : (n : ℕ) (rounds : List ScriptedRound) (place : ℕ) (d : ScriptedRound) → IsTrue (are_good n rounds) → place < length rounds → fault_of (get_or rounds place d) n ≡ None
good_at n [] place d good within = absurd (omega arith)
good_at n (round ∷ rounds) zero d good within = grind (arith, common_steps)
good_at n (round ∷ rounds) (suc place) d good within = good_at n rounds place d (grind (arith, common_steps)) (omega arith)

-- good rounds stay good where one becomes a good one
pub good_set : (n : ℕ) (rounds : List ScriptedRound) (place : ℕ) (round : ScriptedRound) → IsTrue (are_good n rounds) → fault_of round n ≡ None → IsTrue (are_good n (set rounds place round))
good_set n [] place round good fine = good
good_set n (other ∷ rounds) zero round good fine = grind (arith, common_steps)
good_set n (other ∷ rounds) (suc place) round good fine = grind (arith, common_steps, good_set n rounds place round)

pub good_firsts : (n rounds : ℕ) → 0 < n → IsTrue (are_good n (firsts rounds))
good_firsts n zero some = refl
good_firsts n (suc rounds) some = let fine : fault_of first n ≡ None = (first_round n some).1 in grind (arith, common_steps, good_firsts n rounds some)

-- what a walk from the last place to the first has left, and what it found
pub record IsReset (n : ℕ) (old new : List ScriptedRound) (place : ℕ) : Type 0 where
  pub within : place ≤ length old
  pub before : take place new ≡ take place old
  pub behind : drop place new ≡ firsts (length old - place)
  pub last : scripts_after n (drop place old) ≡ []
  pub good : IsTrue (are_good n new)

pub reset_at_start : (n : ℕ) (rounds : List ScriptedRound) → IsTrue (are_good n rounds) → IsReset n rounds rounds (length rounds)
unfolding scripts_after
reset_at_start n rounds good =
    let none : drop (length rounds) rounds ≡ [] = drop-length rounds in
    record {
      within = omega arith;
      before = refl;
      behind = none ∙ ap firsts (let zeroed : 0 ≡ length rounds - length rounds = omega arith in zeroed);
      last = rw none refl;
      good = good;
    }

-- what is before the place is the same, and so is the round there
same_before : (old new : List ScriptedRound) (place : ℕ) → take (place + 1) new ≡ take (place + 1) old → take place new ≡ take place old
same_before old new place same =
    sym (take-take place (place + 1) new (omega arith)) ∙ ap (take place) same ∙ take-take place (place + 1) old (omega arith)

same_at : (old new : List ScriptedRound) (place : ℕ) (d : ScriptedRound) → take (place + 1) new ≡ take (place + 1) old → get_or new place d ≡ get_or old place d
same_at old new place d same =
    sym (get_or-take (place + 1) new place d (omega arith)) ∙ ap (λ xs. get_or xs place d) same ∙ get_or-take (place + 1) old place d (omega arith)

split_at : (old new : List ScriptedRound) (place : ℕ) (round : ScriptedRound) → place < length old → take (place + 1) new ≡ take (place + 1) old → round ≡ get_or new place round → drop place old ≡ round ∷ drop (place + 1) old
split_at old new place round within same is =
    drop-cons old place round within
    ∙ ap (λ it. it ∷ drop (suc place) old) (sym (is ∙ same_at old new place round same))
    ∙ ap (λ k. round ∷ drop k old) (let more : suc place ≡ place + 1 = omega arith in more)

-- a place at which nothing is behind the round is reset too
pub reset_more : (n : ℕ) (old new : List ScriptedRound) (place : ℕ) (round : ScriptedRound) → 0 < n → IsReset n old new (place + 1) → length new ≡ length old → round ≡ get_or new place round → rounds_after n round ≡ [] → IsReset n old (set new place first) place
reset_more n old new place round some reset same is none =
    let old_within : place < length old = let h : place + 1 ≤ length old = reset.within in omega arith in
    let new_within : place < length new = omega arith in
    record {
      within = omega arith;
      before = take-set new place first ∙ same_before old new place reset.before;
      behind =
          drop-set new place first new_within ∙ ap (λ later. first ∷ later) reset.behind
          ∙ ap firsts (let more : suc (length old - (place + 1)) ≡ length old - place = omega arith in more);
      last = ap (scripts_after n) (split_at old new place round old_within reset.before is) ∙ none_at n round (drop (place + 1) old) reset.last none;
      good = good_set n new place first reset.good (first_round n some).1;
    }

-- at a place at which a round is behind the round, the script behind is found
pub found : (n : ℕ) (old new : List ScriptedRound) (place : ℕ) (round next : ScriptedRound) → 0 < n → IsReset n old new (place + 1) → length new ≡ length old → round ≡ get_or new place round → rounds_after n round ≡ next ∷ rounds_after n next → scripts_after n old ≡ set new place next ∷ scripts_after n (set new place next)
found n old new place round next some reset same is steps =
    let old_within : place < length old = let h : place + 1 ≤ length old = reset.within in omega arith in
    let new_within : place < length new = omega arith in
    let count : length old - (place + 1) ≡ length (drop (place + 1) old) = sym (length-drop (place + 1) old) in
    let old_is : old ≡ take place old ++ (round ∷ drop (place + 1) old) =
    sym (take-append-drop place old) ∙ ap (λ later. take place old ++ later) (split_at old new place round old_within reset.before is) in
    let new_is : set new place next ≡ take place old ++ (next ∷ firsts (length (drop (place + 1) old))) =
    sym (take-append-drop place (set new place next))
    ∙ ap (λ before. before ++ drop place (set new place next)) (take-set new place next ∙ same_before old new place reset.before)
    ∙ ap (λ later. take place old ++ later) (drop-set new place next new_within ∙ ap (λ later. next ∷ later) (reset.behind ∙ ap firsts count)) in
    let lengths : length (round ∷ drop (place + 1) old) ≡ length (next ∷ firsts (length (drop (place + 1) old))) =
    ap suc (sym (length-replicate (length (drop (place + 1) old)) first)) in
    let behind : scripts_after n (take place old ++ (round ∷ drop (place + 1) old)) ≡ (take place old ++ (next ∷ firsts (length (drop (place + 1) old)))) ∷ scripts_after n (take place old ++ (next ∷ firsts (length (drop (place + 1) old)))) =
    behind_rounds n (take place old) (round ∷ drop (place + 1) old) (next ∷ firsts (length (drop (place + 1) old))) lengths
    (later_at n round next (drop (place + 1) old) some reset.last steps) in
    ap (scripts_after n) old_is ∙ behind ∙ ap (λ script. script ∷ scripts_after n script) (sym new_is)
