-- When an equivocator answers, and what its answer takes.
use Rattle.std.proofs.Common.{◌≡◌, ◌∙◌, sym, ap, refl, ℕ, ◌+◌, ◌<◌, ◌==◌, ◌&&◌, ◌||◌, Bool, true, false, List, [], ◌∷◌, Option, Some, None, arith}
use Rattle.std.specs.Prelude.{not, if◌then◌else◌}
use Rattle.std.specs.Option.{option_map_or}
use Rattle.simplex_values.specs.declared.proposal.Proposal.{Proposal}
use Rattle.model_faults.specs.Heard.{Heard, certificate_heard}
use Rattle.simplex_mocks.specs.Equivocating.{speaker}
use Rattle.model_faults.specs.Equivocator.{Made, proposal_in, leads_next, was_heard, answered, if_answered, if_equivocates, equivocator_drew, equivocates, equivocator_sends}

-- what an answer comes to, where this is what is to be answered
abbrev pub comes_to : Made → List Heard → Heard → Option Proposal → Type 0
comes_to made before heard what =
    (equivocator_sends made before heard ≡ if_equivocates made made.me (equivocator_drew made before) what)
    × (equivocator_drew made (heard ∷ before) ≡ equivocator_drew made before + option_map_or (λ p. 3) what 0)

pub comes : (made : Made) (before : List Heard) (heard : Heard) → comes_to made before heard (answered made before heard)
unfolding equivocator_sends equivocator_drew
comes made before heard = (refl, refl)

pub answered_by : (made : Made) (before : List Heard) (heard : Heard) (p : Proposal) → proposal_in (certificate_heard heard) ≡ Some p
    → answered made before heard ≡ (if leads_next made p.round.view && not (was_heard before p.round.view) then Some p else None)
unfolding answered
answered_by made before heard p e = ap (if_answered made before) e

pub no_certificate : (made : Made) (before : List Heard) (heard : Heard) → proposal_in (certificate_heard heard) ≡ None → answered made before heard ≡ None
unfolding answered
no_certificate made before heard e = ap (if_answered made before) e

-- without a number it leads nothing
pub needs_number : (made : Made) (view : ℕ) → made.me ≡ None → leads_next made view ≡ false
needs_number made view e = grind (arith, ap (λ me. option_map_or (λ m. made.leader (record { epoch = made.epoch; view = view + 1 }) == m) me false) e)

pub has_others : (made : Made) (view : ℕ) → leads_next made view ≡ true → 1 < made.members
has_others made view h = grind (arith, h)

pub silent : (made : Made) (before : List Heard) (p : Proposal) → speaker made before p ≡ None → (leads_next made p.round.view && not (was_heard before p.round.view)) ≡ false
silent made before p e = by_test (leads_next made p.round.view) (not (was_heard before p.round.view)) (needs_number made p.round.view) e
  where
    by_test : (a b : Bool) → (made.me ≡ None → a ≡ false) → (if a && b then made.me else None) ≡ None → (a && b) ≡ false
    by_test false b h e = refl
    by_test true false h e = refl
    by_test true true h e = h e

pub speaks : (made : Made) (before : List Heard) (p : Proposal) (me : ℕ) → speaker made before p ≡ Some me
    → ((leads_next made p.round.view && not (was_heard before p.round.view)) ≡ true) × (made.me ≡ Some me)
speaks made before p me e = by_test (leads_next made p.round.view && not (was_heard before p.round.view)) e
  where
    by_test : (a : Bool) → (if a then made.me else None) ≡ Some me → (a ≡ true) × (made.me ≡ Some me)
    by_test false e = grind (arith, e)
    by_test true e = (refl, e)

-- nothing is sent and no word is taken
pub record IsSilent (made : Made) (before : List Heard) (heard : Heard) : Type 0 where
  pub sends : equivocator_sends made before heard ≡ []
  pub drew : equivocator_drew made (heard ∷ before) ≡ equivocator_drew made before

pub is_silent : (made : Made) (before : List Heard) (heard : Heard) → answered made before heard ≡ None → IsSilent made before heard
is_silent made before heard e =
    let c = comes made before heard in
    let f : equivocator_drew made before + 0 ≡ equivocator_drew made before = omega arith in
    record {
      sends = c.0 ∙ ap (if_equivocates made made.me (equivocator_drew made before)) e ∙ no_one made.me;
      drew = c.1 ∙ ap (λ what. equivocator_drew made before + option_map_or (λ p. 3) what 0) e ∙ f;
    }
  where
    no_one : (me : Option ℕ) → if_equivocates made me (equivocator_drew made before) None ≡ []
    no_one None = refl
    no_one (Some m) = refl

pub none_heard : (made : Made) (before : List Heard) (heard : Heard) → proposal_in (certificate_heard heard) ≡ None → IsSilent made before heard
none_heard made before heard e = is_silent made before heard (no_certificate made before heard e)

pub not_answered : (made : Made) (before : List Heard) (heard : Heard) (p : Proposal) → proposal_in (certificate_heard heard) ≡ Some p → speaker made before p ≡ None → IsSilent made before heard
not_answered made before heard p e s =
    is_silent made before heard (answered_by made before heard p e ∙ ap (λ b. if b then Some p else None) (silent made before p s))

-- both votes are sent, and three words are taken
pub record Speaks (made : Made) (before : List Heard) (heard : Heard) (p : Proposal) (me : ℕ) : Type 0 where
  pub sends : equivocator_sends made before heard
      ≡ equivocates made me p (made.words (equivocator_drew made before)) (made.words (equivocator_drew made before + 1)) (made.words (equivocator_drew made before + 2))
  pub drew : equivocator_drew made (heard ∷ before) ≡ equivocator_drew made before + 3

pub is_answered : (made : Made) (before : List Heard) (heard : Heard) (p : Proposal) (me : ℕ) → proposal_in (certificate_heard heard) ≡ Some p → speaker made before p ≡ Some me
    → Speaks made before heard p me
is_answered made before heard p me e s =
    let c = comes made before heard in
    let t = speaks made before p me s in
    let a : answered made before heard ≡ Some p = answered_by made before heard p e ∙ ap (λ b. if b then Some p else None) t.0 in
    record {
      sends = c.0 ∙ ap (if_equivocates made made.me (equivocator_drew made before)) a ∙ ap (λ m. if_equivocates made m (equivocator_drew made before) (Some p)) t.1;
      drew = c.1 ∙ ap (λ what. equivocator_drew made before + option_map_or (λ q. 3) what 0) a;
    }

-- the views that were heard of, with one more
pub heard_more : (before : List Heard) (heard : Heard) (p : Proposal) (view : ℕ) → proposal_in (certificate_heard heard) ≡ Some p
    → was_heard (heard ∷ before) view ≡ (view == p.round.view || was_heard before view)
unfolding was_heard
heard_more before heard p view e = ap (λ what. option_map_or (λ q. view == q.round.view) what false || was_heard before view) e

pub heard_same : (before : List Heard) (heard : Heard) (view : ℕ) → proposal_in (certificate_heard heard) ≡ None → was_heard (heard ∷ before) view ≡ was_heard before view
unfolding was_heard
heard_same before heard view e = ap (λ what. option_map_or (λ q. view == q.round.view) what false || was_heard before view) e

-- by whether it leads, and whether the view is new
pub speaker_by : (made : Made) (before : List Heard) (p : Proposal) (leader : Option ℕ) → leader ≡ (if leads_next made p.round.view then made.me else None)
    → was_heard before p.round.view ≡ false → leader ≡ speaker made before p
speaker_by made before p leader e h = e ∙ by_test (leads_next made p.round.view) (was_heard before p.round.view) h
  where
    by_test : (a b : Bool) → b ≡ false → (if a then made.me else None) ≡ (if a && not b then made.me else None)
    by_test false b h = refl
    by_test true b h = ap (λ x. if not x then made.me else None) (sym h)

pub speaker_none : (made : Made) (before : List Heard) (p : Proposal) → was_heard before p.round.view ≡ true → None ≡ speaker made before p
speaker_none made before p h = by_test (leads_next made p.round.view) (was_heard before p.round.view) h
  where
    by_test : (a b : Bool) → b ≡ true → None ≡ (if a && not b then made.me else None)
    by_test false b h = refl
    by_test true b h = ap (λ x. if not x then made.me else None) (sym h)
