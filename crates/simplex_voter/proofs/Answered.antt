-- One more answer comes to an open request.
use Rattle.std.proofs.Common.{◌≡◌, ℕ, ◌+◌, ◌<◌, ◌≤◌, ◌==◌, ◌&&◌, ◌||◌, List, [], ◌∷◌, ◌++◌, length, map, sum_by, Option, Some, None, true, false, Bool, refl, ap, sym, ◌∙◌, arith, cond, nat_lt}
use Rattle.std.specs.Option.{is_none, option_map, option_map_or}
use Rattle.std.specs.List.{list_any, list_all}
use Rattle.std.proofs.lemmas.Grind.{common_steps}
use Rattle.std.proofs.lemmas.Bool.Decides.{nat_tests}
use Rattle.simplex_values.specs.declared.answer.Answer.{Answer}
use Rattle.model_rules.specs.Pending.{Desk, Opened, Pending, is_open}
use Rattle.model_rules.specs.declared.request.ProposalState.{ProposalState}
use Rattle.model_rules.specs.declared.request.ProposalState.TheVariants.{Preparing, Proposing}
use Rattle.model_steps.specs.Voter.{Standing, answer_to, fits_proposal, fits_verdict, takes_answer, answered, marked_answered}
use Rattle.simplex_wire.specs.declared.scheme.Scheme as schemes
use Rattle.simplex_types.specs.declared.elector.Elector as electors
use Rattle.simplex_voter.specs.declared.request.Arrival.{Arrival}
use Rattle.simplex_voter.specs.declared.request.OpenRequest.{OpenRequest}
use Rattle.simplex_voter.specs.declared.request.PendingProposal.{PendingProposal}
use Rattle.simplex_voter.specs.Arrivals.{arrival_from, arrival_of, pending_of, opened_of, is_below, AllKept, IsKept, IsProposalKept, IsVerifyKept, AllBelow, IsProposalBelow, IsVerifyBelow, proposal_waits, verify_waits, request_waits, mark_pending, mark_request, pending_takes, request_takes, takes_in, taken_answer, Arrived}
use Rattle.model_rules.specs.Known.{Made}
use Rattle.model_steps.specs.Desk.{Doing, begun}
use Rattle.simplex_voter.specs.declared.planner.Planner.{Planner}
use Rattle.simplex_voter.specs.Stands.{Stands, doing_of}
use Rattle.simplex_voter.proofs.Taking.{answer-kept}

-- ---- whether the answer is taken

none-alike : (answers : List (ℕ × Answer)) (number : ℕ) → is_none (answer_to answers number) ≡ is_none (arrival_of answers number)
none-alike answers number = rw (answer-kept answers 0 number) (by-arrival (arrival_of answers number))
  where
    by-arrival : (a : Option Arrival) → is_none (option_map (λ (x : Arrival). x.answer) a) ≡ is_none a
    by-arrival None = refl
    by-arrival (Some a) = refl

module _ (answers : List (ℕ × Answer)) (number : ℕ) (answer : Answer) where
  abbrev unanswered : Bool
  unanswered = is_none (arrival_of answers number)

  at-number : (other : ℕ) (arrival : Option Arrival) (fits : Bool) → arrival ≡ arrival_of answers other
      → (other == number && is_none arrival && fits) ≡ (unanswered && (other == number && fits))
  at-number other arrival fits kept = by-number (other == number) refl
    where
      by-number : (b : Bool) → (other == number) ≡ b → (other == number && is_none arrival && fits) ≡ (unanswered && (other == number && fits))
      by-number true is = let e : other ≡ number = grind (arith, nat_tests, is) in rw (kept, e) (grind (arith, common_steps))
      by-number false is = rw is (grind (arith, common_steps))

  proposal-alike : (proposal : Option PendingProposal) → IsProposalKept answers proposal
      → option_map_or (pending_takes number answer) proposal false
      ≡ (unanswered && option_map_or (λ (p : Pending). p.number == number && fits_proposal p.state answer) (option_map pending_of proposal) false)
  proposal-alike None kept = grind (arith, common_steps)
  proposal-alike (Some p) kept = at-number p.number p.arrival (fits_proposal p.state answer) kept

  request-alike : (r : OpenRequest) → IsKept answers r → request_takes number r ≡ (unanswered && (r.number == number))
  request-alike r kept = let e = at-number r.number r.arrival true kept in grind (arith, common_steps, e)

  verify-alike : (verify : Option OpenRequest) → IsVerifyKept answers verify
      → option_map_or (request_takes number) verify false ≡ (unanswered && option_map_or (λ (v : Opened). v.number == number) (option_map opened_of verify) false)
  verify-alike None kept = grind (arith, common_steps)
  verify-alike (Some r) kept = request-alike r kept

  certify-alike : (certify : List OpenRequest) → AllKept answers certify
      → list_any (request_takes number) certify ≡ (unanswered && list_any (λ (c : Opened). c.number == number) (map opened_of certify))
  unfolding AllKept
  certify-alike [] kept = grind (arith, common_steps)
  certify-alike (r ∷ rest) kept = let first = request-alike r kept.0 in let more = certify-alike rest kept.1 in grind (arith, common_steps, first, more)

spread : (t a f v c : Bool) → (t && (a || (f && (v || c)))) ≡ ((t && a) || (f && ((t && v) || (t && c))))
spread true a f v c = refl
spread false a true v c = refl
spread false a false v c = refl

pub takes-is : (answers : List (ℕ × Answer)) (number : ℕ) (answer : Answer) (desk : Desk) (proposal : Option PendingProposal) (verify : Option OpenRequest) (certify : List OpenRequest) (opened count : ℕ)
    → desk.proposal ≡ option_map pending_of proposal → desk.verify ≡ option_map opened_of verify → desk.certify ≡ map opened_of certify
    → Arrived answers proposal verify certify opened count
    → takes_in number answer proposal verify certify ≡ takes_answer (record { desk = desk; answers = answers }) number answer
unfolding takes_in takes_answer
takes-is answers number answer desk proposal verify certify opened count p v c a =
    rw (p, v, c, none-alike answers number, proposal-alike answers number answer proposal a.proposal_kept, verify-alike answers number answer verify a.verify_kept, certify-alike answers number answer certify a.certify_kept)
    (sym (spread (is_none (arrival_of answers number)) _ _ _ _))

-- ---- what is kept then

-- the first answer to a request, among those that came and one more
arrival-more : (answers : List (ℕ × Answer)) (place number other : ℕ) (answer : Answer) (b : Bool) → (other == number) ≡ b → arrival_from place answers number ≡ None
    → arrival_from place (answers ++ (number, answer) ∷ []) other ≡ cond b (Some (record { place = place + length answers; answer = answer })) (arrival_from place answers other)
unfolding arrival_from
arrival-more [] place number other answer true is none = let e : (number == other) ≡ true = grind (arith, nat_tests, is) in rw e (ap (λ (p : ℕ). Some (record { place = p; answer = answer })) (omega arith))
arrival-more [] place number other answer false is none = let e : (number == other) ≡ false = grind (arith, nat_tests, is) in rw e refl
arrival-more (g ∷ rest) place number other answer b is none = grind (arith, common_steps, nat_tests, arrival-more rest (place + 1) number other answer b is)

module _ (answers : List (ℕ × Answer)) (number : ℕ) (answer : Answer) (none : arrival_of answers number ≡ None) where
  abbrev pub more : List (ℕ × Answer)
  more = answers ++ (number, answer) ∷ []

  abbrev pub came : Arrival
  came = record { place = length answers; answer = answer }

  arrives : (other : ℕ) (b : Bool) → (other == number) ≡ b → arrival_of more other ≡ cond b (Some came) (arrival_of answers other)
  arrives other b is = arrival-more answers 0 number other answer b is none ∙ ap (λ (place : ℕ). cond b (Some (record { place = place; answer = answer })) (arrival_of answers other)) (omega arith)

  pending-kept : (p : PendingProposal) (b : Bool) → (p.number == number) ≡ b → p.arrival ≡ arrival_of answers p.number → IsProposalKept more (Some (mark_pending number came p))
  pending-kept p true is kept = rw is (sym (arrives p.number true is))
  pending-kept p false is kept = rw is (kept ∙ sym (arrives p.number false is))

  proposal-kept : (proposal : Option PendingProposal) → IsProposalKept answers proposal → IsProposalKept more (option_map (mark_pending number came) proposal)
  proposal-kept None kept = tt
  proposal-kept (Some p) kept = pending-kept p (p.number == number) refl kept

  request-kept : (r : OpenRequest) (b : Bool) → (r.number == number) ≡ b → IsKept answers r → IsKept more (mark_request number came r)
  request-kept r true is kept = rw is (sym (arrives r.number true is))
  request-kept r false is kept = rw is (kept ∙ sym (arrives r.number false is))

  verify-kept : (verify : Option OpenRequest) → IsVerifyKept answers verify → IsVerifyKept more (option_map (mark_request number came) verify)
  verify-kept None kept = tt
  verify-kept (Some r) kept = request-kept r (r.number == number) refl kept

  certify-kept : (certify : List OpenRequest) → AllKept answers certify → AllKept more (map (mark_request number came) certify)
  unfolding AllKept
  certify-kept [] kept = tt
  certify-kept (r ∷ rest) kept = (request-kept r (r.number == number) refl kept.0, certify-kept rest kept.1)

-- ---- the numbers stay, and what is waited for is less

any-first : (test : OpenRequest → Bool) (r : OpenRequest) (rest : List OpenRequest) → list_any test (r ∷ rest) ≡ (test r || list_any test rest)
any-first test r rest = grind (arith, common_steps)

sum-first : (number : OpenRequest → ℕ) (r : OpenRequest) (rest : List OpenRequest) → sum_by number (r ∷ rest) ≡ number r + sum_by number rest
sum-first number r rest = grind (arith, common_steps)

module _ (number : ℕ) (arrival : Arrival) (opened : ℕ) where
  pending-below : (p : PendingProposal) (b : Bool) → (p.number == number) ≡ b → p.number < opened → (mark_pending number arrival p).number < opened
  pending-below p true is h = rw is h
  pending-below p false is h = rw is h

  proposal-below : (proposal : Option PendingProposal) → IsProposalBelow opened proposal → IsProposalBelow opened (option_map (mark_pending number arrival) proposal)
  proposal-below None h = tt
  proposal-below (Some p) h = pending-below p (p.number == number) refl h

  request-below : (r : OpenRequest) (b : Bool) → (r.number == number) ≡ b → r.number < opened → (mark_request number arrival r).number < opened
  request-below r true is h = rw is h
  request-below r false is h = rw is h

  verify-below : (verify : Option OpenRequest) → IsVerifyBelow opened verify → IsVerifyBelow opened (option_map (mark_request number arrival) verify)
  verify-below None h = tt
  verify-below (Some r) h = request-below r (r.number == number) refl h

  certify-below : (certify : List OpenRequest) → AllBelow opened certify → AllBelow opened (map (mark_request number arrival) certify)
  unfolding AllBelow
  certify-below [] h = tt
  certify-below (r ∷ rest) h = (request-below r (r.number == number) refl h.0, certify-below rest h.1)

  -- a request that is open, if its answer fits it
  abbrev fitting : Answer → ProposalState → Type 0
  fitting answer state = fits_proposal state answer ≡ true → is_open state ≡ true

  fits-open : (answer : Answer) (state : ProposalState) → fitting answer state
  fits-open answer Preparing fits = refl
  fits-open answer Proposing fits = refl
  fits-open answer _ fits = absurd cc

  -- so much less is waited for, and the number is below the next, where the answer is taken
  abbrev Less : Bool → ℕ → ℕ → Type 0
  Less taken before now = (now + cond taken 1 0 ≤ before) × (taken ≡ true → number < opened)

  request-less : (r : OpenRequest) → r.number < opened → Less (request_takes number r) (request_waits r) (request_waits (mark_request number arrival r))
  request-less r below = (by-number (r.number == number) refl r.arrival refl, λ taken. let e : (r.number == number) ≡ true = grind (arith, common_steps, taken) in let n : r.number ≡ number = grind (arith, nat_tests, e) in omega (arith, n, below))
    where
      by-number : (b : Bool) → (r.number == number) ≡ b → (a : Option Arrival) → r.arrival ≡ a → request_waits (mark_request number arrival r) + cond (request_takes number r) 1 0 ≤ request_waits r
      by-number true is None none = rw (is, none) (omega arith)
      by-number true is (Some a) none = rw (is, none) (omega arith)
      by-number false is a none = rw is (omega arith)

  verify-less : (verify : Option OpenRequest) → IsVerifyBelow opened verify → Less (option_map_or (request_takes number) verify false) (verify_waits verify) (verify_waits (option_map (mark_request number arrival) verify))
  verify-less None below = (omega arith, λ taken. absurd cc)
  verify-less (Some r) below = request-less r below

  -- of several, one at least
  either : (a b : Bool) (x y x' y' : ℕ) → Less a x x' → Less b y y' → Less (a || b) (x + y) (x' + y')
  either true b x y x' y' l m = (let e = l.0 in let f = m.0 in omega (arith, e, f), λ taken. l.1 refl)
  either false true x y x' y' l m = (let e = l.0 in let f = m.0 in omega (arith, e, f), λ taken. m.1 refl)
  either false false x y x' y' l m = (let e = l.0 in let f = m.0 in omega (arith, e, f), λ taken. absurd cc)

  only : (f b : Bool) (y y' : ℕ) → Less b y y' → Less (f && b) y y'
  only true b y y' m = m
  only false b y y' m = (let e = m.0 in omega (arith, e), λ taken. absurd cc)

  certify-less : (certify : List OpenRequest) → AllBelow opened certify → Less (list_any (request_takes number) certify) (sum_by request_waits certify) (sum_by request_waits (map (mark_request number arrival) certify))
  unfolding AllBelow
  certify-less [] below = (omega arith, λ taken. absurd cc)
  certify-less (r ∷ rest) below =
      rw (any-first (request_takes number) r rest, sum-first request_waits r rest, sum-first request_waits (mark_request number arrival r) (map (mark_request number arrival) rest))
      (either (request_takes number r) (list_any (request_takes number) rest) _ _ _ _ (request-less r below.0) (certify-less rest below.1))

  proposal-less : (answer : Answer) (proposal : Option PendingProposal) → IsProposalBelow opened proposal
      → Less (option_map_or (pending_takes number answer) proposal false) (proposal_waits proposal) (proposal_waits (option_map (mark_pending number arrival) proposal))
  proposal-less answer None below = (omega arith, λ taken. absurd cc)
  proposal-less answer (Some p) below =
      (by-number (p.number == number) refl p.arrival refl (fits_proposal p.state answer) refl, λ taken. let e : (p.number == number) ≡ true = grind (arith, common_steps, taken) in let n : p.number ≡ number = grind (arith, nat_tests, e) in omega (arith, n, below))
    where
      by-number : (b : Bool) → (p.number == number) ≡ b → (a : Option Arrival) → p.arrival ≡ a → (f : Bool) → fits_proposal p.state answer ≡ f
          → proposal_waits (Some (mark_pending number arrival p)) + cond (pending_takes number answer p) 1 0 ≤ proposal_waits (Some p)
      by-number true is None none true fits = let o = fits-open answer p.state fits in rw (is, none, fits, o) (omega arith)
      by-number true is None none false fits = rw (is, none, fits) (grind (arith, common_steps))
      by-number true is (Some a) none f fits = rw (is, none) (grind (arith, common_steps))
      by-number false is a none f fits = rw is (omega arith)

pub arrived-more : (answers : List (ℕ × Answer)) (number : ℕ) (answer : Answer) (proposal : Option PendingProposal) (verify : Option OpenRequest) (certify : List OpenRequest) (opened count : ℕ)
    → arrival_of answers number ≡ None → takes_in number answer proposal verify certify ≡ true → Arrived answers proposal verify certify opened count
    → Arrived (answers ++ (number, answer) ∷ []) (option_map (mark_pending number (record { place = length answers; answer = answer })) proposal)
    (option_map (mark_request number (record { place = length answers; answer = answer })) verify)
    (map (mark_request number (record { place = length answers; answer = answer })) certify) opened (count + 1)
unfolding takes_in
arrived-more answers number answer proposal verify certify opened count none takes a =
    let arrival : Arrival = record { place = length answers; answer = answer } in
    let less = either number arrival opened _ _ _ _ _ _ (proposal-less number arrival opened answer proposal a.proposal_below)
    (only number arrival opened (fits_verdict answer) _ _ _ (either number arrival opened _ _ _ _ _ _ (verify-less number arrival opened verify a.verify_below) (certify-less number arrival opened certify a.certify_below))) in
    let fewer = rw takes at less.0 in
    record {
      below = below-last answers opened number answer a.below (less.1 takes);
      proposal_kept = proposal-kept answers number answer none proposal a.proposal_kept;
      verify_kept = verify-kept answers number answer none verify a.verify_kept;
      certify_kept = certify-kept answers number answer none certify a.certify_kept;
      proposal_below = proposal-below number arrival opened proposal a.proposal_below;
      verify_below = verify-below number arrival opened verify a.verify_below;
      certify_below = certify-below number arrival opened certify a.certify_below;
      counted = rw a.counted (grind (arith, common_steps));
      room = let room = a.room in omega (arith, fewer, room);
    }
  where
    below-last : (answers : List (ℕ × Answer)) (opened number : ℕ) (answer : Answer) → list_all (is_below opened) answers ≡ true → number < opened → list_all (is_below opened) (answers ++ (number, answer) ∷ []) ≡ true
    below-last [] opened number answer h new = grind (arith, common_steps, nat_tests, new)
    below-last (g ∷ rest) opened number answer h new = grind (arith, common_steps, nat_tests, new, below-last rest opened number answer)

-- the same, at the place that is counted
arrived-at : (place : ℕ) (answers : List (ℕ × Answer)) (number : ℕ) (answer : Answer) (proposal : Option PendingProposal) (verify : Option OpenRequest) (certify : List OpenRequest) (opened count : ℕ)
    → place ≡ length answers
    → arrival_of answers number ≡ None → takes_in number answer proposal verify certify ≡ true → Arrived answers proposal verify certify opened count
    → Arrived (answers ++ (number, answer) ∷ []) (option_map (mark_pending number (record { place = place; answer = answer })) proposal)
    (option_map (mark_request number (record { place = place; answer = answer })) verify)
    (map (mark_request number (record { place = place; answer = answer })) certify) opened (count + 1)
arrived-at place answers number answer proposal verify certify opened count at none takes a =
    rw at (arrived-more answers number answer proposal verify certify opened count none takes a)

-- ---- at a standing

none-by : (answers : List (ℕ × Answer)) (number : ℕ) (rest : Bool) → (is_none (answer_to answers number) && rest) ≡ true → arrival_of answers number ≡ None
none-by answers number rest taken = by-arrival (arrival_of answers number) refl
  where
    by-arrival : (a : Option Arrival) → arrival_of answers number ≡ a → arrival_of answers number ≡ None
    by-arrival None is = is
    by-arrival (Some a) is = absurd (let e : (is_none (answer_to answers number) && rest) ≡ false = rw (none-alike answers number, is) refl in let f = sym e ∙ taken in cc)

-- a request that takes an answer has none yet
pub taken-none : (answers : List (ℕ × Answer)) (number : ℕ) (answer : Answer) (desk : Desk) → takes_answer (record { desk = desk; answers = answers }) number answer ≡ true → arrival_of answers number ≡ None
unfolding takes_answer
taken-none answers number answer desk taken = none-by answers number _ taken

pub answered-so : (number : ℕ) (answer : Answer) (s : Standing) → takes_answer s number answer ≡ true → answered number answer s ≡ taken_answer number answer s
unfolding answered
answered-so number answer s takes = rw takes refl

pub answered-not : (number : ℕ) (answer : Answer) (s : Standing) → takes_answer s number answer ≡ false → answered number answer s ≡ s
unfolding answered
answered-not number answer s takes = rw takes refl

module _ (number : ℕ) (arrival : Arrival) where
  pub marked-pending : (proposal : Option PendingProposal) → option_map pending_of (option_map (mark_pending number arrival) proposal) ≡ option_map (marked_answered number) (option_map pending_of proposal)
  marked-pending None = refl
  marked-pending (Some p) =
      elim (p.number == number) as (λ b. Some (pending_of (cond b (record p { arrival = Some arrival; is_answered = true }) p)) ≡ Some (cond b (record (pending_of p) { is_answered = true }) (pending_of p)))
      [ true ↦ refl | false ↦ refl ]

  marked-opened : (r : OpenRequest) → opened_of (mark_request number arrival r) ≡ opened_of r
  marked-opened r = elim (r.number == number) as (λ b. opened_of (cond b (record r { arrival = Some arrival }) r) ≡ opened_of r) [ true ↦ refl | false ↦ refl ]

  pub marked-verify : (verify : Option OpenRequest) → option_map opened_of (option_map (mark_request number arrival) verify) ≡ option_map opened_of verify
  marked-verify None = refl
  marked-verify (Some r) = ap Some (marked-opened r)

  pub marked-certify : (certify : List OpenRequest) → map opened_of (map (mark_request number arrival) certify) ≡ map opened_of certify
  marked-certify [] = refl
  marked-certify (r ∷ rest) = rw (marked-opened r, marked-certify rest) refl

module _ {S L : Type 0} {g : schemes.Ghosts S} {h : electors.Ghosts L} where
  -- whether the planner's requests take the answer is the rule
  pub takes-said : {planner : Planner S L g h} {made : Made} {answers : List (ℕ × Answer)} {desk : Desk} (number : ℕ) (answer : Answer) → (s : Stands planner made answers (begun desk))
      → takes_in number answer planner.proposal planner.verify planner.certify.items ≡ takes_answer (record { desk = desk; answers = answers }) number answer
  unfolding doing_of
  takes-said {planner} {made} {answers} {desk} number answer s =
      takes-is answers number answer desk planner.proposal planner.verify planner.certify.items planner.opened planner.arrivals
      (ap (λ (d : Doing). d.desk.proposal) s.does) (ap (λ (d : Doing). d.desk.verify) s.does) (ap (λ (d : Doing). d.desk.certify) s.does) s.keeps

  -- what the planner stands for once its requests keep one more answer
  pub stands-more : {old new : Planner S L g h} {made : Made} {answers : List (ℕ × Answer)} {desk : Desk} (number : ℕ) (answer : Answer)
      → new.state ≡ old.state → new.proposal ≡ option_map (mark_pending number (record { place = old.arrivals; answer = answer })) old.proposal
      → new.verify ≡ option_map (mark_request number (record { place = old.arrivals; answer = answer })) old.verify
      → new.certify.items ≡ map (mark_request number (record { place = old.arrivals; answer = answer })) old.certify.items
      → new.opened ≡ old.opened → new.arrivals ≡ cond (nat_lt old.arrivals old.opened) (old.arrivals + 1) old.arrivals
      → new.out ≡ old.out → new.dropped.items ≡ old.dropped.items → new.missing.items ≡ old.missing.items → new.wrote ≡ old.wrote → new.verdict ≡ old.verdict → new.nullify ≡ old.nullify
      → takes_in number answer old.proposal old.verify old.certify.items ≡ true
      → Stands old made answers (begun desk)
      → Stands new made (answers ++ (number, answer) ∷ []) (begun (record desk { proposal = option_map (marked_answered number) desk.proposal }))
  unfolding doing_of
  stands-more {old} {new} {made} {answers} {desk} number answer state proposal verify certify opened arrivals out dropped missing wrote verdict nullify takes s =
      let arrival : Arrival = record { place = old.arrivals; answer = answer } in
      let none = taken-none answers number answer desk (sym (takes-said number answer s) ∙ takes) in
      let kept : Arrived (answers ++ (number, answer) ∷ []) (option_map (mark_pending number arrival) old.proposal) (option_map (mark_request number arrival) old.verify) (map (mark_request number arrival) old.certify.items) old.opened (old.arrivals + 1)
      = arrived-at old.arrivals answers number answer old.proposal old.verify old.certify.items old.opened old.arrivals s.keeps.counted none takes s.keeps in
      let room = kept.room in
      let fewer : old.arrivals < old.opened = omega (arith, room) in
      let counts : nat_lt old.arrivals old.opened ≡ true = grind (arith, nat_tests, fewer) in
      let count : new.arrivals ≡ old.arrivals + 1 = rw counts at arrivals in
      record {
        calls = s.calls;
        state = rw state s.state;
        retains = s.retains;
        does = rw (proposal, verify, certify, opened, out, dropped, missing, wrote, verdict, nullify, marked-pending number arrival old.proposal, marked-verify number arrival old.verify, marked-certify number arrival old.certify.items)
            (ap (λ (d : Doing). record d { desk = record d.desk { proposal = option_map (marked_answered number) d.desk.proposal } }) s.does);
        keeps = rw (proposal, verify, certify, opened, count) kept;
      }
