-- Which call of the journal is the prune, by the calls that the rules make.
use Rattle.std.proofs.Common.{◌≡◌, ℕ, ◌+◌, ◌-◌, ◌==◌, nat_lt, zero, suc, Bool, true, false, List, [], ◌∷◌, ◌++◌, map, filter, length, Option, Some, None, refl, sym, ap, ◌∙◌, subst, arith, if◌then◌else◌}
use Rattle.std.specs.Option.{option_map_or}
use Rattle.std.proofs.lemmas.Grind.{common_steps}
use Rattle.std.proofs.lemmas.Bool.Decides.{nat_tests}
use Rattle.std.proofs.lemmas.List.{map-append}
use Rattle.std.proofs.lemmas.List.Elements.{filter-append}
use Rattle.simplex_wire.specs.declared.artifact.Artifact.{Artifact}
use Rattle.simplex_wire.specs.declared.vote.Vote.{Vote}
use Rattle.simplex_journal.specs.Journal.{Section, pruned_first}
use Rattle.simplex_messages.specs.declared.call.Call.{Call}
use Rattle.simplex_messages.specs.declared.call.Call.TheVariants as calls
use Rattle.simplex_messages.specs.declared.step.Stop.TheVariants as stops
use Rattle.model_rules.specs.Known.{Made, Fact, Voted, has_nullified}
use Rattle.model_rules.specs.Views.{current_of, least_active}
use Rattle.model_steps.specs.Performed.{is_of_journal, journal_place, stop_place, failing_at}
use Rattle.model_audit.specs.JournalCalls.{append_of, syncs_of, prunes_of, records_made, known_then, journal_calls}
use Rattle.model_audit.specs.Taking.{Taking, Deadline, Mail, Reply, acted, given_up, newly_known}
use Rattle.model_audit.specs.JournalCalls.{added_by}
use Rattle.law_member.specs.Learned.{additions}
use Rattle.law_audit.specs.Recording.{prune_in, shape_of}
use Rattle.law_audit.proofs.Journals.{failed, by_shape, failed_alone}
use Rattle.law_audit.proofs.Looking.{finalized_by}
use Rattle.simplex_reader.specs.declared.sections.RuledPrune.{RuledPrune}
use Rattle.simplex_reader.specs.Failing.{failed_at, ArePrunedBy}
use Rattle.simplex_reader.specs.Pruning.{records_if, known_if, prune_behind}
use Rattle.simplex_reader.specs.Taking.{ruled_if}
use Rattle.simplex_reader.proofs.Failing.{none_made}

-- ---- so many calls that are no prunes, and then a prune, if there is one

unfoldable pub nones : ℕ → List (Option ℕ)
nones zero = []
nones (suc n) = None ∷ nones n

abbrev pub then_one : Option ℕ → List (Option ℕ)
then_one None = []
then_one (Some least) = Some least ∷ []

abbrev pub prune_at : ℕ → Option ℕ → Option RuledPrune
prune_at n None = None
prune_at n (Some least) = Some (record { number = n + 1; least = least })

module _ (fail keep : ℕ) (sections : List Section) where
  first : (least call : ℕ) → (if call == 1 then pruned_first keep least sections else sections) ≡ (if 0 + 1 == call then pruned_first keep least sections else sections)
  first least call = ap (λ b. if b then pruned_first keep least sections else sections) (turned call)
    where
      turned : (n : ℕ) → (n == 1) ≡ (0 + 1 == n)
      turned n = grind (arith, common_steps, nat_tests)

  further : (n least call : ℕ) → (if call == 1 then sections else (if n + 1 == call - 1 then pruned_first keep least sections else sections))
      ≡ (if suc n + 1 == call then pruned_first keep least sections else sections)
  further n least call = at (call == 1) refl
    where
      not_yet : (call == 1) ≡ true → (suc n + 1 == call) ≡ false
      not_yet e = grind (arith, common_steps, nat_tests, e)

      less : (call == 1) ≡ false → (n + 1 == call - 1) ≡ (suc n + 1 == call)
      less e = grind (arith, common_steps, nat_tests, e)

      at : (b : Bool) → (call == 1) ≡ b → (if b then sections else (if n + 1 == call - 1 then pruned_first keep least sections else sections))
          ≡ (if suc n + 1 == call then pruned_first keep least sections else sections)
      at true e = ap (λ b. if b then pruned_first keep least sections else sections) (sym (not_yet e))
      at false e = ap (λ b. if b then pruned_first keep least sections else sections) (less e)

  either : (b : Bool) → (if b then sections else sections) ≡ sections
  either true = refl
  either false = refl

  by_number : (n : ℕ) (o : Option ℕ) (call : ℕ) → by_shape (stops.Fail fail keep) call (nones n ++ then_one o) sections ≡ failed_at (prune_at n o) call keep sections
  unfolding by_shape nones
  by_number zero None call = refl
  by_number zero (Some least) call = first least call
  by_number (suc n) None call = ap (λ js. if call == 1 then sections else js) (by_number n None (call - 1)) ∙ either (call == 1)
  by_number (suc n) (Some least) call = ap (λ js. if call == 1 then sections else js) (by_number n (Some least) (call - 1)) ∙ further n least call

never_zero : (n : ℕ) (o : Option ℕ) (call keep : ℕ) (sections : List Section) → nat_lt 0 call ≡ false → sections ≡ failed_at (prune_at n o) call keep sections
never_zero n None call keep sections e = refl
never_zero n (Some least) call keep sections e = ap (λ b. if b then pruned_first keep least sections else sections) (sym (above n call e))
  where
    above : (n call : ℕ) → nat_lt 0 call ≡ false → (n + 1 == call) ≡ false
    above n call e = grind (arith, common_steps, nat_tests, e)

pub pruned_by_shape : (ruled : List Call) (n : ℕ) (o : Option ℕ) → shape_of ruled ≡ nones n ++ then_one o → ArePrunedBy ruled (prune_at n o)
unfolding stop_place failed
pruned_by_shape ruled n o shape call keep sections = at (nat_lt 0 call) refl
  where
    whole : failed (stops.Fail call keep) call ruled sections ≡ failed_at (prune_at n o) call keep sections
    whole = failed_alone (stops.Fail call keep) call ruled sections ∙ ap (λ s. by_shape (stops.Fail call keep) call s sections) shape ∙ by_number call keep sections n o call

    at : (b : Bool) → nat_lt 0 call ≡ b → option_map_or (λ place. failing_at (stops.Fail call keep) ruled place sections) (if b then journal_place call ruled else None) sections
        ≡ failed_at (prune_at n o) call keep sections
    at true e = whole
    at false e = never_zero n o call keep sections e

-- ---- the calls of a step

shape-append : (a b : List Call) → shape_of (a ++ b) ≡ shape_of a ++ shape_of b
shape-append a b = ap (map prune_in) (filter-append is_of_journal a b) ∙ map-append prune_in (filter is_of_journal a) (filter is_of_journal b)

appends_shape : (records : List Artifact) → shape_of (map append_of records) ≡ nones (length records)
unfolding nones
appends_shape [] = refl
appends_shape (artifact ∷ rest) = ap (λ shape. None ∷ shape) (appends_shape rest)

abbrev synced : ℕ → ℕ
synced records = if records == 0 then 0 else 1

nones-append : (a b : ℕ) → nones a ++ nones b ≡ nones (a + b)
unfolding nones
nones-append zero b = ap nones (zero_more b)
  where
    zero_more : (b : ℕ) → b ≡ 0 + b
    zero_more b = omega arith
nones-append (suc a) b = ap (λ shape. None ∷ shape) (nones-append a b) ∙ ap nones (one_more a b)
  where
    one_more : (a b : ℕ) → suc (a + b) ≡ suc a + b
    one_more a b = omega arith

syncs_shape : (records : List Artifact) → shape_of (syncs_of records) ≡ nones (synced (length records))
unfolding nones
syncs_shape [] = refl
syncs_shape (artifact ∷ rest) = ap (λ b. nones (if b then 0 else 1)) (some (length rest))
  where
    some : (n : ℕ) → false ≡ (suc n == 0)
    some n = grind (arith, common_steps, nat_tests)

abbrev pub risen : ℕ → ℕ → Option ℕ
risen before after = if nat_lt before after then Some after else None

prunes_shape : (before after : ℕ) → shape_of (if nat_lt before after then calls.Prune after ∷ [] else []) ≡ then_one (risen before after)
prunes_shape before after = at (nat_lt before after)
  where
    at : (b : Bool) → shape_of (if b then calls.Prune after ∷ [] else []) ≡ then_one (if b then Some after else None)
    at true = refl
    at false = refl

is_behind : (n before after : ℕ) → prune_at (n + synced n) (risen before after) ≡ prune_behind n before after
is_behind n before after = at (nat_lt before after)
  where
    at : (b : Bool) → prune_at (n + synced n) (if b then Some after else None) ≡ (if b then Some (record { number = n + synced n + 1; least = after }) else None)
    at true = refl
    at false = refl

module _ (made : Made) (now : ℕ) (known : List Fact) (taking : Taking) where
  abbrev records : List Artifact
  records = records_made made now known taking

  abbrev behind : List Fact
  behind = known_then made now known taking

  calls_shape : shape_of (journal_calls made now known taking)
      ≡ nones (length records + synced (length records)) ++ then_one (risen (least_active made known) (least_active made behind))
  unfolding journal_calls
  calls_shape =
      shape-append (map append_of records ++ syncs_of records) (prunes_of made known behind)
      ∙ ap (λ shape. shape ++ shape_of (prunes_of made known behind))
      (shape-append (map append_of records) (syncs_of records)
      ∙ ap (λ shape. shape ++ shape_of (syncs_of records)) (appends_shape records)
      ∙ ap (λ shape. nones (length records) ++ shape) (syncs_shape records)
      ∙ nones-append (length records) (synced (length records)))
      ∙ ap (λ shape. nones (length records + synced (length records)) ++ shape) (prunes_shape (least_active made known) (least_active made behind))

  -- the nullify of a deadline leaves what is final
  newly_final : (after : List Fact) → additions (newly_known made known taking ++ after) ≡ additions after
  newly_final after = at taking
    where
      voted : (votes : List Vote) → additions (map Voted votes ++ after) ≡ additions after
      voted [] = refl
      voted (vote ∷ rest) = voted rest

      unless : (b : Bool) → additions ((if b then [] else map Voted (given_up made known Deadline)) ++ after) ≡ additions after
      unless true = refl
      unless false = voted (given_up made known Deadline)

      at : (t : Taking) → additions (newly_known made known t ++ after) ≡ additions after
      at Deadline = unless (has_nullified known (current_of made known))
      at (Mail message) = refl
      at (Reply asked answer) = refl

  pub ruled_by : ArePrunedBy (journal_calls made now known taking)
      (prune_behind (length records) (least_active made known) (least_active made (acted made now known (added_by made known taking) taking)))
  unfolding least_active
  ruled_by =
      subst (ArePrunedBy (journal_calls made now known taking))
      (is_behind (length records) (least_active made known) (least_active made behind)
      ∙ ap (λ n. prune_behind (length records) (least_active made known) (n - made.retention)) (finalized_by behind (acted made now known (added_by made known taking) taking) (newly_final (acted made now known (added_by made known taking) taking))))
      (pruned_by_shape (journal_calls made now known taking) (length records + synced (length records)) (risen (least_active made known) (least_active made behind)) calls_shape)

even : (n : ℕ) (records : ℕ) → prune_behind records n n ≡ None
even n records = ap (λ b. if b then Some (record { number = records + synced records + 1; least = n }) else None) (not_less n)
  where
    not_less : (n : ℕ) → nat_lt n n ≡ false
    not_less n = grind (arith, nat_tests)

-- where this was taken
pub ruled_if_by : (made : Made) (now : ℕ) (facts : List Fact) (taking : Option Taking) (number before after : ℕ) (prune : Option RuledPrune)
    → number ≡ length (records_if made now facts taking) → before ≡ least_active made facts → after ≡ least_active made (known_if made now facts taking)
    → prune ≡ prune_behind number before after
    → ArePrunedBy (ruled_if made now facts taking) prune
ruled_if_by made now facts None number before after prune count low high is =
    subst (ArePrunedBy []) (sym (is ∙ ap (λ n. prune_behind number n after) low ∙ ap (prune_behind number (least_active made facts)) high ∙ even (least_active made facts) number)) none_made
ruled_if_by made now facts (Some taking) number before after prune count low high is =
    subst (ArePrunedBy (journal_calls made now facts taking))
    (sym (is ∙ ap (λ n. prune_behind n before after) count ∙ ap (λ n. prune_behind (length (records_made made now facts taking)) n after) low
    ∙ ap (prune_behind (length (records_made made now facts taking)) (least_active made facts)) high))
    (ruled_by made now facts taking)
