-- What each source holds.
use Rattle.std.proofs.Common.{◌≡◌, ℕ, ◌+◌, ◌≤◌, Bool, true, false, List, [], ◌∷◌, map, find, Option, Some, None, refl, arith, ◌==◌, cond, sym, ◌∙◌, ap}
use Rattle.std.proofs.lemmas.Grind.{common_steps}
use Rattle.std.proofs.lemmas.Bool.Decides.{nat_tests}
use Rattle.std.specs.Option.{option_map}
use Rattle.simplex_values.specs.declared.answer.Answer.{Answer}
use Rattle.simplex_values.specs.declared.answer.Answer.TheVariants as answers
use Rattle.model_rules.specs.Known.{Made}
use Rattle.model_rules.specs.Pending.{Desk, Pending, Opened}
use Rattle.simplex_messages.specs.declared.voter.VoterInput.TheVariants as inputs
use Rattle.model_steps.specs.Desk.{Doing, begun}
use Rattle.model_steps.specs.Voter.{answer_to, first_answered, with_answer, take_proposal, begin_iteration, ended, finished, acted, act_on_verify, act_on_certify}
use Rattle.simplex_voter.specs.declared.request.Arrival.{Arrival}
use Rattle.simplex_voter.specs.declared.request.OpenRequest.{OpenRequest}
use Rattle.simplex_voter.specs.Arrivals.{arrival_from, opened_of, least_of, is_before, is_before_at, AllKept, IsKept}
use Rattle.simplex_voter.specs.Stands.{Acted, Planned}

module _ {Stands : Doing → Type 0} {before : Doing} where
  -- nothing was held
  pub nothing-acted : {done : Option (Doing × Option ℕ)} → done ≡ None → Stands before → Acted Stands before done None
  nothing-acted none s = record { finds = rw none refl; does = rw none s }

  -- this was done
  pub acted-so : {done : Option (Doing × Option ℕ)} (d : Doing × Option ℕ) (found : Option ℕ) → done ≡ Some d → found ≡ d.1 → Stands d.0 → Acted Stands before done (Some found)
  acted-so d found is view s = record { finds = rw (is, view) refl; does = rw is s }

  pub acted-as : {done other : Option (Doing × Option ℕ)} {found : Option (Option ℕ)} → done ≡ other → Acted Stands before other found → Acted Stands before done found
  acted-as is a = record { finds = rw is a.finds; does = rw is a.does }

-- the answer is the one that is kept
pub answer-kept : (given : List (ℕ × Answer)) (place number : ℕ) → answer_to given number ≡ option_map (λ (a : Arrival). a.answer) (arrival_from place given number)
unfolding arrival_from
answer-kept [] place number = refl
answer-kept (g ∷ rest) place number = grind (arith, common_steps, answer-kept rest (place + 1) number)

module _ (made : Made) (now : ℕ) (desk : Desk) (given : List (ℕ × Answer)) where
  pub verify-none : desk.verify ≡ None → acted made now (record { desk = desk; answers = given }) inputs.Verify ≡ None
  unfolding acted
  verify-none none = rw none refl

  pub verify-unanswered : (v : OpenRequest) → desk.verify ≡ Some (opened_of v) → IsKept given v → v.arrival ≡ None → acted made now (record { desk = desk; answers = given }) inputs.Verify ≡ None
  unfolding acted
  verify-unanswered v opened kept none = rw (opened, answer-kept given 0 v.number, ← kept, none) refl

  pub verify-answered : (v : OpenRequest) (a : Arrival) → desk.verify ≡ Some (opened_of v) → IsKept given v → v.arrival ≡ Some a → acted made now (record { desk = desk; answers = given }) inputs.Verify ≡ Some (act_on_verify made now (opened_of v) a.answer (begun desk))
  unfolding acted
  verify-answered v a opened kept some = rw (opened, answer-kept given 0 v.number, ← kept, some) refl

pub verify-touches : (made : Made) (now : ℕ) (v : Opened) (answer : Answer) (doing : Doing) → (act_on_verify made now v answer doing).1 ≡ Some v.view
unfolding act_on_verify
verify-touches made now v (answers.Verdict true) doing = refl
verify-touches made now v (answers.Verdict false) doing = refl
verify-touches made now v _ doing = refl

-- ---- the one that was answered first

-- each keeps what came, where the first of these answers has this place
AllFrom : ℕ → List (ℕ × Answer) → List OpenRequest → Type 0
AllFrom place given [] = Unit {0}
AllFrom place given (r ∷ rest) = (r.arrival ≡ arrival_from place given r.number) × AllFrom place given rest

all-from : (given : List (ℕ × Answer)) (requests : List OpenRequest) → AllKept given requests → AllFrom 0 given requests
unfolding AllKept AllFrom
all-from given [] h = tt
all-from given (r ∷ rest) h = (h.0, all-from given rest h.1)

abbrev pub taken_of : Option OpenRequest → Option (Opened × Answer)
taken_of None = None
taken_of (Some r) = option_map (λ (a : Arrival). with_answer a.answer (opened_of r)) r.arrival

none-least : (place : ℕ) (requests : List OpenRequest) → AllFrom place [] requests → least_of None requests ≡ None
unfolding AllFrom least_of arrival_from
none-least place [] h = refl
none-least place (r ∷ rest) h = rw h.0 (none-least place rest h.1)

-- a later answer has a later place
later-by : (place : ℕ) (g : ℕ × Answer) (rest : List (ℕ × Answer)) (number : ℕ) (a : Arrival) → ((a : Arrival) → arrival_from (place + 1) rest number ≡ Some a → place + 1 ≤ a.place)
    → (b : Bool) → (g.0 == number) ≡ b → arrival_from place (g ∷ rest) number ≡ Some a → place ≤ a.place
unfolding arrival_from
later-by place g rest number a more true is h = let e : Some (record { place = place; answer = g.1 }) ≡ Some a = rw is at h in let p : place ≡ a.place = cc in omega arith
later-by place g rest number a more false is h = let le = more a (rw is at h) in omega (arith, le)

later : (place : ℕ) (given : List (ℕ × Answer)) (number : ℕ) (a : Arrival) → arrival_from place given number ≡ Some a → place ≤ a.place
unfolding arrival_from
later place [] number a h = absurd cc
later place (g ∷ rest) number a h = later-by place g rest number a (λ a' h'. later (place + 1) rest number a' h') (g.0 == number) refl h

not-before : (x : Option Arrival) (a : Arrival) → ((b : Arrival) → x ≡ Some b → a.place ≤ b.place) → is_before_at x (Some a) ≡ false
not-before None a h = refl
not-before (Some b) a h = let le = h b refl in grind (arith, nat_tests, le)

is-before : (place : ℕ) (answer : Answer) (x : Option Arrival) → ((b : Arrival) → x ≡ Some b → place + 1 ≤ b.place) → is_before_at (Some (record { place = place; answer = answer })) x ≡ true
is-before place answer None h = refl
is-before place answer (Some b) h = let le = h b refl in grind (arith, nat_tests, le)

least-stays : (place : ℕ) (given : List (ℕ × Answer)) (r : OpenRequest) (a : Arrival) → r.arrival ≡ Some a → a.place ≡ place
    → (requests : List OpenRequest) → AllFrom place given requests → least_of (Some r) requests ≡ Some r
unfolding AllFrom least_of
least-stays place given r a is at [] h = refl
least-stays place given r a is at (c ∷ rest) h =
    let behind : is_before_at c.arrival r.arrival ≡ false = rw is (not-before c.arrival a (λ b e. rw at (later place given c.number b (sym h.0 ∙ e)))) in
    rw behind (least-stays place given r a is at rest h.1)

-- one of this place comes before
abbrev Late : ℕ → Option OpenRequest → Type 0
Late place first = (c : OpenRequest) (answer : Answer) → c.arrival ≡ Some (record { place = place; answer = answer }) → is_before c first ≡ true

late-after : (place : ℕ) (c : OpenRequest) (first : Option OpenRequest) → ((b : Arrival) → c.arrival ≡ Some b → place + 1 ≤ b.place) → Late place first
    → (t : Bool) → Late place (cond t (Some c) first)
late-after place c first h late true = λ d answer e. rw e (is-before place answer c.arrival h)
late-after place c first h late false = late

module _ (place : ℕ) (g : ℕ × Answer) (rest : List (ℕ × Answer)) where
  abbrev arrives : ℕ → Option Arrival
  arrives number = arrival_from place (g ∷ rest) number

  arrives-here : (number : ℕ) → (number == g.0) ≡ true → arrives number ≡ Some (record { place = place; answer = g.1 })
  unfolding arrival_from
  arrives-here number is = let e : (g.0 == number) ≡ true = grind (arith, nat_tests, is) in rw e refl

  arrives-later : (number : ℕ) → (number == g.0) ≡ false → arrives number ≡ arrival_from (place + 1) rest number
  unfolding arrival_from
  arrives-later number is = let e : (g.0 == number) ≡ false = grind (arith, nat_tests, is) in rw e refl

  found-by : (c : OpenRequest) (requests : List OpenRequest) (o : Opened) (first : Option OpenRequest) → AllFrom place (g ∷ rest) (c ∷ requests) → Late place first
      → ((first' : Option OpenRequest) → Late place first' → find (λ (o : Opened). o.number == g.0) (map opened_of requests) ≡ Some o → taken_of (least_of first' requests) ≡ Some (with_answer g.1 o))
      → (b : Bool) → (c.number == g.0) ≡ b → find (λ (o : Opened). o.number == g.0) (map opened_of (c ∷ requests)) ≡ Some o
      → taken_of (least_of first (c ∷ requests)) ≡ Some (with_answer g.1 o)
  unfolding AllFrom least_of
  found-by c requests o first h late more true is found =
      let here = h.0 ∙ arrives-here c.number is in
      let same : Some (opened_of c) ≡ Some o = rw is at found in
      let opened : opened_of c ≡ o = cc in
      rw (late c g.1 here, least-stays place (g ∷ rest) c _ here refl requests h.1, here, opened) refl
  found-by c requests o first h late more false is found =
      let behind = h.0 ∙ arrives-later c.number is in
      more (cond (is_before c first) (Some c) first)
      (late-after place c first (λ b e. later (place + 1) rest c.number b (sym behind ∙ e)) late (is_before c first)) (rw is at found)

  least-found : (requests : List OpenRequest) (o : Opened) (first : Option OpenRequest) → AllFrom place (g ∷ rest) requests → Late place first
      → find (λ (o : Opened). o.number == g.0) (map opened_of requests) ≡ Some o → taken_of (least_of first requests) ≡ Some (with_answer g.1 o)
  unfolding AllFrom
  least-found [] o first h late found = absurd cc
  least-found (c ∷ requests) o first h late found =
      found-by c requests o first h late (λ first' late' found'. least-found requests o first' h.1 late' found') (c.number == g.0) refl found

  missed-by : (c : OpenRequest) (requests : List OpenRequest) → AllFrom place (g ∷ rest) (c ∷ requests)
      → (find (λ (o : Opened). o.number == g.0) (map opened_of requests) ≡ None → AllFrom (place + 1) rest requests)
      → (b : Bool) → (c.number == g.0) ≡ b → find (λ (o : Opened). o.number == g.0) (map opened_of (c ∷ requests)) ≡ None → AllFrom (place + 1) rest (c ∷ requests)
  unfolding AllFrom
  missed-by c requests h more true is none = let e : Some (opened_of c) ≡ None = rw is at none in absurd cc
  missed-by c requests h more false is none = (h.0 ∙ arrives-later c.number is, more (rw is at none))

  least-missed : (requests : List OpenRequest) → AllFrom place (g ∷ rest) requests → find (λ (o : Opened). o.number == g.0) (map opened_of requests) ≡ None → AllFrom (place + 1) rest requests
  unfolding AllFrom
  least-missed [] h none = tt
  least-missed (c ∷ requests) h none = missed-by c requests h (λ none'. least-missed requests h.1 none') (c.number == g.0) refl none

first-by : (place : ℕ) (g : ℕ × Answer) (rest : List (ℕ × Answer)) (requests : List OpenRequest) → AllFrom place (g ∷ rest) requests
    → (AllFrom (place + 1) rest requests → taken_of (least_of None requests) ≡ first_answered (map opened_of requests) rest)
    → (f : Option Opened) → find (λ (o : Opened). o.number == g.0) (map opened_of requests) ≡ f → taken_of (least_of None requests) ≡ first_answered (map opened_of requests) (g ∷ rest)
unfolding first_answered
first-by place g rest requests h more None is = rw is (more (least-missed place g rest requests h is))
first-by place g rest requests h more (Some o) is = rw is (least-found place g rest requests o None h (λ c answer e. rw e refl) is)

first-from : (place : ℕ) (given : List (ℕ × Answer)) (requests : List OpenRequest) → AllFrom place given requests
    → taken_of (least_of None requests) ≡ first_answered (map opened_of requests) given
unfolding first_answered
first-from place [] requests h = rw (none-least place requests h) refl
first-from place (g ∷ rest) requests h =
    first-by place g rest requests h (λ h'. first-from (place + 1) rest requests h') (find (λ (o : Opened). o.number == g.0) (map opened_of requests)) refl

pub certify-acts : (made : Made) (now : ℕ) (desk : Desk) (given : List (ℕ × Answer)) (requests : List OpenRequest) → desk.certify ≡ map opened_of requests → AllKept given requests
    → acted made now (record { desk = desk; answers = given }) inputs.Certify ≡ option_map (λ (t : Opened × Answer). act_on_certify made now t.0 t.1 (begun desk)) (taken_of (least_of None requests))
unfolding acted
certify-acts made now desk given requests opened kept = rw (opened, first-from 0 given requests (all-from given requests kept)) refl

-- ---- the pending proposal

module _ (made : Made) (now : ℕ) (desk : Desk) (given : List (ℕ × Answer)) where
  pub proposal-none : desk.proposal ≡ None → acted made now (record { desk = desk; answers = given }) inputs.Propose ≡ None
  unfolding acted
  proposal-none none = rw none refl

  pub proposal-some : (p : Pending) → desk.proposal ≡ Some p → acted made now (record { desk = desk; answers = given }) inputs.Propose ≡ take_proposal made now (record { desk = desk; answers = given }) p p.state
  unfolding acted
  proposal-some p pending = rw pending refl

-- ---- the whole step

pub finished-from : (made : Made) (now before current : ℕ) (doing : Doing) (found : Option ℕ) → before ≡ current
    → begin_iteration made now (ended made now before (doing, found)) ≡ finished made now current (doing, found)
unfolding finished
finished-from made now before current doing found is = ap (λ (view : ℕ). begin_iteration made now (ended made now view (doing, found))) is

pub planned-none : {StandsNow : Doing → Type 0} {before : Doing} (finish : Doing × Option ℕ → Doing) (done : Option (Doing × Option ℕ)) → Acted StandsNow before done None → Planned StandsNow before (option_map finish done) false
planned-none finish None a = record { holds = refl; does = a.does }
planned-none finish (Some d) a = absurd (let e = a.finds in cc)

pub planned-some : {StandsThen StandsNow : Doing → Type 0} {before : Doing} (finish : Doing × Option ℕ → Doing) (done : Option (Doing × Option ℕ)) (found : Option ℕ)
    → Acted StandsThen before done (Some found) → ((doing : Doing) → StandsThen doing → StandsNow (finish (doing, found))) → Planned StandsNow before (option_map finish done) true
planned-some finish None found a more = absurd (let e = a.finds in cc)
planned-some finish (Some d) found a more = record { holds = refl; does = let e : found ≡ d.1 = (let f = a.finds in cc) in rw e at (more d.0 a.does) }

-- the one that was answered first is the rule's
pub certify-first : (given : List (ℕ × Answer)) (requests : List OpenRequest) → AllKept given requests → taken_of (least_of None requests) ≡ first_answered (map opened_of requests) given
certify-first given requests kept = first-from 0 given requests (all-from given requests kept)
