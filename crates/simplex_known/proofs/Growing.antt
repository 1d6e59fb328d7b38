-- What is kept behind one more fact.
use Rattle.std.proofs.Common.{◌≡◌, ℕ, ◌||◌, max, Bool, List, ◌∷◌, refl, sym, ap, subst, ◌∙◌, arith}
use Rattle.simplex_state.specs.Ranges.{holds}
use Rattle.simplex_values.specs.declared.proposal.Proposal.{Proposal}
use Rattle.model_rules.specs.Known.{Made, Fact, is_nullify_in, is_answer_in, is_approval_in, has_nullified, was_answered, was_approved}
use Rattle.model_rules.specs.Views.{last_finalized, current_of, finalized_view, opened_view}
use Rattle.model_rules.specs.Ancestry.{is_covered, is_covered_in}
use Rattle.simplex_known.specs.declared.covers.Covers.{Covers}
use Rattle.simplex_known.specs.declared.known.Known.{Known}
use Rattle.simplex_known.specs.Covers.{CoversStand}
use Rattle.simplex_known.specs.Knows.{Learns, AreRulesOf}
use Rattle.simplex_known.specs.Opened.{lists}
use Rattle.simplex_known.specs.Proposals.{has_proposal}
use Rattle.simplex_known.specs.Rounds.{round_in}
use Rattle.simplex_known.proofs.Facts.{learn_round, round_step}

-- what one more fact changes of what is kept
pub record Grows (old new : Known) (fact : Fact) : Type 0 where
  pub rules : new.rules ≡ old.rules
  pub length : new.covers.length ≡ old.covers.length
  pub final : new.last_finalized ≡ max (finalized_view fact) old.last_finalized
  pub current : new.current ≡ max (opened_view old.rules.lookahead.length fact) old.current
  pub rounds : (view : ℕ) → round_in new.rounds view ≡ learn_round fact view (round_in old.rounds view)
  pub given_up : (view : ℕ) → holds new.given_up view ≡ (is_nullify_in view fact || holds old.given_up view)
  pub covers : (covered : ℕ → Bool) → CoversStand old.covers covered
      → CoversStand new.covers (λ view. is_covered_in old.covers.length view fact || covered view)
  pub answered : (p : Proposal) → has_proposal new.answered p ≡ (is_answer_in p fact || has_proposal old.answered p)
  pub approved : (p : Proposal) → has_proposal new.approved p ≡ (is_approval_in p fact || has_proposal old.approved p)

pub covers_same : (kept : Covers) (p q : ℕ → Bool) → ((view : ℕ) → p view ≡ q view) → CoversStand kept p → CoversStand kept q
covers_same kept p q same stands =
    record {
      some_length = stands.some_length;
      least = λ view. stands.least view ∙ same view;
      whole = λ view held. sym (same view) ∙ stands.whole view held;
    }

module _ (made : Made) (fact : Fact) (known : List Fact) where
  final_step : last_finalized (fact ∷ known) ≡ max (finalized_view fact) (last_finalized known)
  unfolding lists
  final_step = refl

  current_step : current_of made (fact ∷ known) ≡ max (opened_view made.term_length fact) (current_of made known)
  unfolding lists
  current_step = omega arith

  nullified_step : (view : ℕ) → has_nullified (fact ∷ known) view ≡ (is_nullify_in view fact || has_nullified known view)
  unfolding lists
  nullified_step view = refl

  answered_step : (p : Proposal) → was_answered (fact ∷ known) p ≡ (is_answer_in p fact || was_answered known p)
  unfolding lists
  answered_step p = refl

  approved_step : (p : Proposal) → was_approved (fact ∷ known) p ≡ (is_approval_in p fact || was_approved known p)
  unfolding lists
  approved_step p = refl

  covered_step : (length view : ℕ) → length ≡ made.term_length
      → (is_covered_in length view fact || is_covered made known view) ≡ is_covered made (fact ∷ known) view
  unfolding lists
  covered_step length view e = ap (λ n. is_covered_in n view fact || is_covered made known view) e

  current_grows : (new old length : ℕ) → new ≡ max (opened_view length fact) old → length ≡ made.term_length → old ≡ current_of made known
      → new ≡ current_of made (fact ∷ known)
  current_grows new old length n l o =
      n ∙ ap (λ at. max (opened_view at fact) old) l ∙ ap (λ at. max (opened_view made.term_length fact) at) o ∙ sym current_step

-- where this is what one more fact changes, it is kept with the others
pub grows : (old new : Known) (fact : Fact) → Grows old new fact → Learns old new fact
grows old new fact g made known k =
    record {
      rules = subst (AreRulesOf made) (sym g.rules) k.rules;
      length = g.length ∙ k.length;
      final = g.final ∙ ap (λ at. max (finalized_view fact) at) k.final ∙ sym (final_step made fact known);
      current = current_grows made fact known new.current old.current old.rules.lookahead.length g.current k.rules.term_length k.current;
      rounds = λ view. g.rounds view ∙ ap (learn_round fact view) (k.rounds view) ∙ sym (round_step fact known view);
      given_up = λ view. g.given_up view ∙ ap (λ b. is_nullify_in view fact || b) (k.given_up view) ∙ sym (nullified_step made fact known view);
      covers = covers_same new.covers _ _ (λ view. covered_step made fact known old.covers.length view k.length) (g.covers (is_covered made known) k.covers);
      answered = λ p. g.answered p ∙ ap (λ b. is_answer_in p fact || b) (k.answered p) ∙ sym (answered_step made fact known p);
      approved = λ p. g.approved p ∙ ap (λ b. is_approval_in p fact || b) (k.approved p) ∙ sym (approved_step made fact known p);
    }
