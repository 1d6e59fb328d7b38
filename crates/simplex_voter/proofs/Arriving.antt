-- What the open requests keep of the answers, as requests are opened.
use Rattle.std.proofs.Common.{◌≡◌, ℕ, ◌+◌, ◌<◌, ◌≤◌, List, [], ◌∷◌, ◌++◌, sum_by, Option, Some, None, refl, arith, true, false, Bool, sym, filter, map, nat_lt, not, ◌==◌, cond}
use Rattle.std.specs.List.{list_all}
use Rattle.std.proofs.lemmas.Grind.{common_steps}
use Rattle.std.proofs.lemmas.Bool.Decides.{nat_tests}
use Rattle.simplex_values.specs.declared.answer.Answer.{Answer}
use Rattle.simplex_voter.specs.declared.request.OpenRequest.{OpenRequest}
use Rattle.simplex_voter.specs.declared.request.PendingProposal.{PendingProposal}
use Rattle.simplex_voter.specs.Arrivals.{arrival_from, arrival_of, is_below, AllKept, IsKept, AllBelow, IsProposalBelow, IsVerifyBelow, request_waits, opened_of, Arrived}

-- no answer came to a request that is not opened yet
pub arrival-above : (answers : List (ℕ × Answer)) (place opened : ℕ) → list_all (is_below opened) answers ≡ true → arrival_from place answers opened ≡ None
unfolding arrival_from
arrival-above [] place opened h = refl
arrival-above (given ∷ rest) place opened h = grind (arith, common_steps, nat_tests, arrival-above rest (place + 1) opened)

pub arrival_of-opened : (answers : List (ℕ × Answer)) (opened : ℕ) → list_all (is_below opened) answers ≡ true → arrival_of answers opened ≡ None
arrival_of-opened answers opened h = arrival-above answers 0 opened h

pub below-more : (answers : List (ℕ × Answer)) (opened : ℕ) → list_all (is_below opened) answers ≡ true → list_all (is_below (opened + 1)) answers ≡ true
below-more [] opened h = refl
below-more (given ∷ rest) opened h = grind (arith, common_steps, nat_tests, below-more rest opened)

-- requests that are dropped leave the others as they were
pub kept-filter : (answers : List (ℕ × Answer)) (test : OpenRequest → Bool) (requests : List OpenRequest) → AllKept answers requests → AllKept answers (filter test requests)
unfolding AllKept
kept-filter answers test [] h = h
kept-filter answers test (r ∷ rest) h =
    elim (test r) as (λ b. AllKept answers (cond b (r ∷ filter test rest) (filter test rest)))
    [ true ↦ (h.0, kept-filter answers test rest h.1) | false ↦ kept-filter answers test rest h.1 ]

pub waits-filter : (test : OpenRequest → Bool) (requests : List OpenRequest) → sum_by request_waits (filter test requests) ≤ sum_by request_waits requests
waits-filter test [] = omega arith
waits-filter test (r ∷ rest) = grind (arith, common_steps, waits-filter test rest)

pub map-opened-filter : (finalized : ℕ) (requests : List OpenRequest) → map opened_of (filter (λ r. nat_lt finalized r.view) requests) ≡ filter (λ c. nat_lt finalized c.view) (map opened_of requests)
map-opened-filter finalized [] = refl
map-opened-filter finalized (r ∷ rest) = grind (arith, common_steps, map-opened-filter finalized rest)

pub map-opened-others : (number : ℕ) (requests : List OpenRequest) → map opened_of (filter (λ r. not (r.number == number)) requests) ≡ filter (λ c. not (c.number == number)) (map opened_of requests)
map-opened-others number [] = refl
map-opened-others number (r ∷ rest) = grind (arith, common_steps, map-opened-others number rest)

-- the next number is greater
pub proposal-below-more : (opened : ℕ) (proposal : Option PendingProposal) → IsProposalBelow opened proposal → IsProposalBelow (opened + 1) proposal
proposal-below-more opened None h = tt
proposal-below-more opened (Some p) h = omega (arith, h)

pub verify-below-more : (opened : ℕ) (verify : Option OpenRequest) → IsVerifyBelow opened verify → IsVerifyBelow (opened + 1) verify
verify-below-more opened None h = tt
verify-below-more opened (Some v) h = omega (arith, h)

pub all-below-more : (opened : ℕ) (requests : List OpenRequest) → AllBelow opened requests → AllBelow (opened + 1) requests
unfolding AllBelow
all-below-more opened [] h = tt
all-below-more opened (r ∷ rest) h = (let first = h.0 in omega (arith, first), all-below-more opened rest h.1)

all-below-last : (opened : ℕ) (requests : List OpenRequest) (r : OpenRequest) → AllBelow opened requests → r.number < opened → AllBelow opened (requests ++ r ∷ [])
unfolding AllBelow
all-below-last opened [] r h new = (new, tt)
all-below-last opened (s ∷ rest) r h new = (h.0, all-below-last opened rest r h.1 new)

pub below-filter : (opened : ℕ) (test : OpenRequest → Bool) (requests : List OpenRequest) → AllBelow opened requests → AllBelow opened (filter test requests)
unfolding AllBelow
below-filter opened test [] h = h
below-filter opened test (r ∷ rest) h =
    elim (test r) as (λ b. AllBelow opened (cond b (r ∷ filter test rest) (filter test rest)))
    [ true ↦ (h.0, below-filter opened test rest h.1) | false ↦ below-filter opened test rest h.1 ]

-- one more request that waits is kept as it is
pub kept-more : (answers : List (ℕ × Answer)) (requests : List OpenRequest) (r : OpenRequest) → AllKept answers requests → IsKept answers r → AllKept answers (requests ++ r ∷ [])
unfolding AllKept
kept-more answers [] r h new = (new, tt)
kept-more answers (s ∷ rest) r h new = (h.0, kept-more answers rest r h.1 new)

pub waits-more : (requests : List OpenRequest) (r : OpenRequest) → sum_by request_waits (requests ++ r ∷ []) ≡ sum_by request_waits requests + request_waits r
waits-more [] r = omega arith
waits-more (s ∷ rest) r = grind (arith, common_steps, waits-more rest r)

-- one more Certify is open
pub arrived-certify : (answers : List (ℕ × Answer)) (proposal : Option PendingProposal) (verify : Option OpenRequest) (certify : List OpenRequest) (opened count : ℕ) (r : OpenRequest)
    → r.number ≡ opened → r.arrival ≡ None → Arrived answers proposal verify certify opened count
    → Arrived answers proposal verify (certify ++ r ∷ []) (opened + 1) count
arrived-certify answers proposal verify certify opened count r number none a =
    record {
      below = below-more answers opened a.below;
      proposal_kept = a.proposal_kept;
      verify_kept = a.verify_kept;
      certify_kept = kept-more answers certify r a.certify_kept (rw (none, number) (sym (arrival_of-opened answers opened a.below)));
      proposal_below = proposal-below-more opened proposal a.proposal_below;
      verify_below = verify-below-more opened verify a.verify_below;
      certify_below = all-below-last (opened + 1) certify r (all-below-more opened certify a.certify_below) (rw number (omega arith));
      counted = a.counted;
      room = rw (waits-more certify r) (rw none (omega (arith, a.room)));
    }

pub ruleset arrived_rules = (arrival_of-opened, below-more, proposal-below-more, verify-below-more, all-below-more)
