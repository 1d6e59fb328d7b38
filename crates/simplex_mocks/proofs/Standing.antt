-- An equivocator goes on.
use Rattle.std.proofs.Common.{◌≡◌, ◌∙◌, sym, ap, ℕ, ◌+◌, List, Option}
use Rattle.std.specs.Prelude.{Result, Ok, Err, OnOk}
use Rattle.simplex_mocks.specs.Drawing.{answers_of}
use Rattle.simplex_values.specs.declared.proposal.Proposal.{Proposal}
use Rattle.simplex_values.specs.declared.proposal.Subject.{Subject}
use Rattle.simplex_values.specs.declared.round.Round.{Round}
use Rattle.simplex_wire.specs.declared.attestation.Attestation.{Attestation}
use Rattle.model_faults.specs.Words.{Words, Draws}
use Rattle.model_faults.specs.Heard.{Heard}
use Rattle.model_faults.specs.Equivocator.{Made, was_heard, equivocator_drew, equivocates, next_round}
use Rattle.simplex_mocks.specs.declared.equivocator.Equivocator.{Equivocator}
use Rattle.simplex_mocks.specs.Equivocating.{StandsFor, made_of, has_view}

module _ {S L : Type 0} (attests : S → Subject → Option Attestation) (member : S → Option ℕ) (members : S → ℕ) (elects : L → Round → ℕ) where
  pub stands_made : (e : Equivocator S L) (made : Made) (before : List Heard) → StandsFor attests member members elects e made before
      → made ≡ made_of attests member members elects e.scheme e.elector e.epoch made.words
  unfolding StandsFor
  stands_made e made before h = h.0

  pub stands_draws : (e : Equivocator S L) (made : Made) (before : List Heard) → StandsFor attests member members elects e made before
      → Draws (answers_of e.random) made.words (equivocator_drew made before)
  unfolding StandsFor
  stands_draws e made before h = h.2

  pub stands_heard : (e : Equivocator S L) (made : Made) (before : List Heard) → StandsFor attests member members elects e made before
      → (view : ℕ) → has_view e.heard view ≡ was_heard before view
  unfolding StandsFor
  stands_heard e made before h = h.1

  pub same_made : (s t : S) (k l : L) (a b : ℕ) (words : Words) → s ≡ t → k ≡ l → a ≡ b
      → made_of attests member members elects s k a words ≡ made_of attests member members elects t l b words
  same_made s t k l a b words x y z =
      ap (λ s. made_of attests member members elects s k a words) x ∙ ap (λ k. made_of attests member members elects t k a words) y
      ∙ ap (λ a. made_of attests member members elects t l a words) z

  pub stands_on : (e f : Equivocator S L) (made : Made) (before after : List Heard) → f.scheme ≡ e.scheme → f.elector ≡ e.elector → f.epoch ≡ e.epoch
      → StandsFor attests member members elects e made before
      → ((view : ℕ) → has_view f.heard view ≡ was_heard after view)
      → Draws (answers_of f.random) made.words (equivocator_drew made after)
      → StandsFor attests member members elects f made after
  unfolding StandsFor
  stands_on e f made before after x y z h heard draws =
      (h.0 ∙ same_made e.scheme f.scheme e.elector f.elector e.epoch f.epoch made.words (sym x) (sym y) (sym z), heard, draws)

-- three words that are drawn are those that the votes take
pub three_words : (made : Made) (me : ℕ) (p : Proposal) (a b c x y z : ℕ) → a ≡ x → b ≡ y → c ≡ z → equivocates made me p a b c ≡ equivocates made me p x y z
three_words made me p a b c x y z f g h =
    ap (λ a. equivocates made me p a b c) f ∙ ap (λ b. equivocates made me p x b c) g ∙ ap (λ c. equivocates made me p x y c) h

pub round_of : (made : Made) (epoch view : ℕ) → made.epoch ≡ epoch → record { epoch = epoch; view = view + 1 } ≡ next_round made view
round_of made epoch view e = ap (λ x. let r : Round = record { epoch = x; view = view + 1 } in r) (sym e)

pub on_ok : {T E : Type 0} (r : Result T E) (P : Type 0) → P → OnOk r P
on_ok (Ok x) P p = p
on_ok (Err e) P p = tt
