-- Deadlines and numbers beside the views, as entries come and go.
use Rattle.std.proofs.Common.{◌≡◌, ◌==◌, ◌&&◌, ◌||◌, ℕ, Bool, true, false, not, refl, sym, ap, ◌∙◌, List, Option, Some, None, inl, inr, arith}
use Rattle.std.specs.Prelude.{if◌then◌else◌}
use Rattle.std.proofs.lemmas.Grind.{common_steps}
use Rattle.std.proofs.lemmas.Bool.{cases_eq}
use Rattle.std.proofs.lemmas.Bool.Decides.{nat_tests}
use Rattle.std.specs.Ordering.{nat_cmp}
use Rattle.std.specs.Map.{lookup}
use Rattle.std.specs.List.{list_any}
use Rattle.std.specs.BTreeMap.{is_at}
use Rattle.model_resolver.specs.declared.entry.Entry.{Entry}
use Rattle.model_resolver.specs.declared.entry.State.{State}
use Rattle.model_resolver.specs.declared.entry.State.TheVariants.{Waiting, Asked, Judged}
use Rattle.model_resolver.specs.Views.{entry_at, deadline_of, id_of, first_view, is_asked_as, is_judged_as, asked_view}
use Rattle.simplex_fetch.specs.Index.{is_value, has_id, pair_cmp, IsIndexed, IsFree}
use Rattle.simplex_fetch.proofs.Entries.{Rising, passes, first_view-some, first_view-none}

-- a value that is there is the only one
pub value_one : (a b : ℕ) (o : Option ℕ) → is_value a o ≡ true → is_value b o ≡ (b == a)
value_one a b None h = cc
value_one a b (Some c) h = grind (arith, common_steps, nat_tests)

pub value_here : (a b : ℕ) → is_value a (Some b) ≡ true → a ≡ b
value_here a b h = grind (arith, common_steps, nat_tests)

-- a number that a view has is no other view's
pub number_one : (views : List (ℕ × Entry)) (timers numbers : List (ℕ × ℕ)) → IsIndexed views timers numbers
    → (id v q : ℕ) → has_id id (entry_at views v) ≡ true → has_id id (entry_at views q) ≡ (q == v)
number_one views timers numbers ix id v q h =
    let one = value_one v q (lookup (is_at (nat_cmp id)) numbers) (ix.numbered id v ∙ h) in
    sym (ix.numbered id q) ∙ one

-- without a view, its deadline and its number, all stays indexed
pub removed : (view : ℕ) (e : Entry) (views views' : List (ℕ × Entry)) (timers timers' numbers numbers' : List (ℕ × ℕ))
    → IsIndexed views timers numbers → entry_at views view ≡ Some e → Rising views'
    → ((q : ℕ) → entry_at views' q ≡ (if view == q then None else entry_at views q))
    → ((d v : ℕ) → list_any (is_at (pair_cmp (d, v))) timers' ≡ (not (is_value d (deadline_of e.state) && v == view) && list_any (is_at (pair_cmp (d, v))) timers))
    → ((q : ℕ) → lookup (is_at (nat_cmp q)) numbers' ≡ (if is_value q (id_of e.state) then None else lookup (is_at (nat_cmp q)) numbers))
    → IsIndexed views' timers' numbers'
removed view e views views' timers timers' numbers numbers' ix at rises left cleared closed = record {
  rising = rises;
  timed = λ d v.
      let was = ix.timed d v in let is = left v in let goes = cleared d v in
      elim (cases_eq v view) [
        | inl same ↦ let here : entry_at views v ≡ Some e = rw same at in grind (arith, common_steps, nat_tests)
        | inr apart ↦ grind (arith, common_steps, nat_tests)
      ];
  numbered = λ id v.
      let was = ix.numbered id v in let is = left v in let goes = closed id in
      elim (is_value id (id_of e.state)) as (λ b. is_value id (id_of e.state) ≡ b → is_value v (lookup (is_at (nat_cmp id)) numbers') ≡ has_id id (entry_at views' v)) [
        | true ↦ λ yes.
            let mine : has_id id (entry_at views view) ≡ true = rw at yes in
            let one = number_one views timers numbers ix id view v mine in grind (arith, common_steps, nat_tests)
        | false ↦ λ no. elim (cases_eq v view) [
          | inl same ↦ let here : entry_at views v ≡ Some e = rw same at in grind (arith, common_steps, nat_tests)
          | inr apart ↦ grind (arith, common_steps, nat_tests)
        ]
      ] refl;
}

-- the number of a view that left is free
pub freed : (view : ℕ) (e : Entry) (views views' : List (ℕ × Entry)) (timers numbers : List (ℕ × ℕ))
    → IsIndexed views timers numbers → entry_at views view ≡ Some e
    → ((q : ℕ) → entry_at views' q ≡ (if view == q then None else entry_at views q))
    → IsFree (id_of e.state) views'
freed view e views views' timers numbers ix at left =
    elim (id_of e.state) as (λ o. id_of e.state ≡ o → IsFree o views') [
      | None ↦ λ none. tt
      | Some id ↦ λ some. λ v.
          let yes : is_value id (id_of e.state) ≡ true = rw some (grind (arith, nat_tests)) in
          let mine : has_id id (entry_at views view) ≡ true = rw at yes in
          let one = number_one views timers numbers ix id view v mine in
          let is = left v in grind (arith, common_steps, nat_tests)
    ] refl

-- a number that is free is no view's
pub free_of : (id : ℕ) (o : Option ℕ) (views : List (ℕ × Entry)) → IsFree o views → is_value id o ≡ true → (v : ℕ) → has_id id (entry_at views v) ≡ false
free_of id None views free h v = cc
free_of id (Some n) views free h v =
    let same : id ≡ n = value_here id n h in let is : has_id n (entry_at views v) ≡ false = free v in rw same is

-- with one more view, its deadline and its number, all stays indexed
pub inserted : (view : ℕ) (e : Entry) (views views' : List (ℕ × Entry)) (timers timers' numbers numbers' : List (ℕ × ℕ))
    → IsIndexed views timers numbers → entry_at views view ≡ None → IsFree (id_of e.state) views → Rising views'
    → ((q : ℕ) → entry_at views' q ≡ (if view == q then Some e else entry_at views q))
    → ((d v : ℕ) → list_any (is_at (pair_cmp (d, v))) timers' ≡ ((is_value d (deadline_of e.state) && v == view) || list_any (is_at (pair_cmp (d, v))) timers))
    → ((q : ℕ) → lookup (is_at (nat_cmp q)) numbers' ≡ (if is_value q (id_of e.state) then Some view else lookup (is_at (nat_cmp q)) numbers))
    → IsIndexed views' timers' numbers'
inserted view e views views' timers timers' numbers numbers' ix at free rises put set opened = record {
  rising = rises;
  timed = λ d v.
      let was = ix.timed d v in let is = put v in let comes = set d v in
      elim (cases_eq v view) [
        | inl same ↦ let here : entry_at views v ≡ None = rw same at in grind (arith, common_steps, nat_tests)
        | inr apart ↦ grind (arith, common_steps, nat_tests)
      ];
  numbered = λ id v.
      let was = ix.numbered id v in let is = put v in let comes = opened id in
      elim (is_value id (id_of e.state)) as (λ b. is_value id (id_of e.state) ≡ b → is_value v (lookup (is_at (nat_cmp id)) numbers') ≡ has_id id (entry_at views' v)) [
        | true ↦ λ yes.
            let other : has_id id (entry_at views v) ≡ false = free_of id (id_of e.state) views free yes v in
            elim (cases_eq v view) [
              | inl same ↦ grind (arith, common_steps, nat_tests)
              | inr apart ↦ grind (arith, common_steps, nat_tests)
            ]
        | false ↦ λ no. elim (cases_eq v view) [
          | inl same ↦ let here : entry_at views v ≡ None = rw same at in grind (arith, common_steps, nat_tests)
          | inr apart ↦ grind (arith, common_steps, nat_tests)
        ]
      ] refl;
}

-- where a view is taken back that was not put in whole, all is as before
pub restored : (view : ℕ) (e : Entry) (views : List (ℕ × Entry)) (timers set cleared numbers opened closed : List (ℕ × ℕ))
    → IsIndexed views timers numbers → entry_at views view ≡ None → IsFree (id_of e.state) views
    → ((d v : ℕ) → list_any (is_at (pair_cmp (d, v))) set ≡ ((is_value d (deadline_of e.state) && v == view) || list_any (is_at (pair_cmp (d, v))) timers))
    → ((d v : ℕ) → list_any (is_at (pair_cmp (d, v))) cleared ≡ (not (is_value d (deadline_of e.state) && v == view) && list_any (is_at (pair_cmp (d, v))) set))
    → ((q : ℕ) → lookup (is_at (nat_cmp q)) opened ≡ (if is_value q (id_of e.state) then Some view else lookup (is_at (nat_cmp q)) numbers))
    → ((q : ℕ) → lookup (is_at (nat_cmp q)) closed ≡ (if is_value q (id_of e.state) then None else lookup (is_at (nat_cmp q)) opened))
    → IsIndexed views cleared closed
restored view e views timers set cleared numbers opened closed ix at free comes goes opens closes = record {
  rising = ix.rising;
  timed = λ d v.
      let was = ix.timed d v in let a = comes d v in let b = goes d v in
      elim (cases_eq v view) [
        | inl same ↦ let here : entry_at views v ≡ None = rw same at in grind (arith, common_steps, nat_tests)
        | inr apart ↦ grind (arith, common_steps, nat_tests)
      ];
  numbered = λ id v.
      let was = ix.numbered id v in let a = opens id in let b = closes id in
      elim (is_value id (id_of e.state)) as (λ b. is_value id (id_of e.state) ≡ b → is_value v (lookup (is_at (nat_cmp id)) closed) ≡ has_id id (entry_at views v)) [
        | true ↦ λ yes.
            let other : has_id id (entry_at views v) ≡ false = free_of id (id_of e.state) views free yes v in
            grind (arith, common_steps, nat_tests)
        | false ↦ λ no. grind (arith, common_steps, nat_tests)
      ] refl;
}

-- where a test needs the number: the view of the number is the first that passes, if it passes
module _ (views : List (ℕ × Entry)) (timers numbers : List (ℕ × ℕ)) (ix : IsIndexed views timers numbers)
    (id : ℕ) (test : Entry → Bool) (needs : (e : Entry) → test e ≡ true → is_value id (id_of e.state) ≡ true) where
  pub passes_has : (o : Option Entry) → passes test o ≡ true → has_id id o ≡ true
  passes_has None h = cc
  passes_has (Some e) h = needs e h

  pub none_where : ((q : ℕ) → passes test (entry_at views q) ≡ true → ⊥) → first_view test views ≡ None
  none_where never = elim (first_view test views) as (λ o. first_view test views ≡ o → o ≡ None) [
    | None ↦ λ is. refl
    | Some w ↦ λ is. absurd (never w (first_view-some test views w ix.rising is))
  ] refl

  pub found-unknown : lookup (is_at (nat_cmp id)) numbers ≡ None → first_view test views ≡ None
  found-unknown none = none_where (λ q h.
      let has = passes_has (entry_at views q) h in
      let is : is_value q (lookup (is_at (nat_cmp id)) numbers) ≡ true = ix.numbered id q ∙ has in
      let no : false ≡ true = rw none at is in cc)

  pub found-no : (v : ℕ) → lookup (is_at (nat_cmp id)) numbers ≡ Some v → passes test (entry_at views v) ≡ false → first_view test views ≡ None
  found-no v some fails = none_where (λ q h.
      let has = passes_has (entry_at views q) h in
      let is : is_value q (lookup (is_at (nat_cmp id)) numbers) ≡ true = ix.numbered id q ∙ has in
      let same : q ≡ v = value_here q v (rw some at is) in
      let no : false ≡ true = sym fails ∙ (rw same at h) in cc)

  pub found-yes : (v : ℕ) → lookup (is_at (nat_cmp id)) numbers ≡ Some v → passes test (entry_at views v) ≡ true → first_view test views ≡ Some v
  found-yes v some pass = elim (first_view test views) as (λ o. first_view test views ≡ o → o ≡ Some v) [
    | None ↦ λ is. let no : true ≡ false = sym pass ∙ first_view-none test views v is in cc
    | Some w ↦ λ is.
        let has = passes_has (entry_at views w) (first_view-some test views w ix.rising is) in
        let at : is_value w (lookup (is_at (nat_cmp id)) numbers) ≡ true = ix.numbered id w ∙ has in
        ap Some (value_here w v (rw some at at))
  ] refl

-- a request that is open has its number
pub asked_needs : (id sender : ℕ) (s : State) → is_asked_as id sender s ≡ true → is_value id (id_of s) ≡ true
asked_needs id sender (Waiting until) h = cc
asked_needs id sender (Asked asked peer deadline) h = grind (arith, common_steps, nat_tests)
asked_needs id sender (Judged judged peer delivered) h = cc

-- and so has one that is judged
pub judged_needs : (id : ℕ) (s : State) → is_judged_as id s ≡ true → is_value id (id_of s) ≡ true
judged_needs id (Waiting until) h = cc
judged_needs id (Asked asked peer deadline) h = cc
judged_needs id (Judged judged peer delivered) h = grind (arith, common_steps, nat_tests)

pub value_some : (n : ℕ) (o : Option ℕ) → is_value n o ≡ true → o ≡ Some n
value_some n None h = cc
value_some n (Some m) h = ap Some (sym (value_here n m h))

-- the view of an open request has its number
pub asked_open : (id sender view : ℕ) (es : List (ℕ × Entry)) (e : Entry) → Rising es → asked_view id sender es ≡ Some view → entry_at es view ≡ Some e → id_of e.state ≡ Some id
asked_open id sender view es e s opened at =
    let pass = first_view-some (λ (e : Entry). is_asked_as id sender e.state) es view s opened in
    let here : is_asked_as id sender e.state ≡ true = rw at at pass in
    value_some id (id_of e.state) (asked_needs id sender e.state here)
