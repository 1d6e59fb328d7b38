-- An equivocator that has heard these messages, the newest first.
use Rattle.std.specs.Prelude.{◌≡◌, ◌&&◌, ℕ, Bool, not, List, Option, None, if◌then◌else◌}
use Rattle.simplex_values.specs.declared.proposal.Proposal.{Proposal}
use Rattle.std.specs.Ordering.{nat_cmp}
use Rattle.std.specs.BTreeSet as set
use Rattle.simplex_mocks.specs.Drawing.{answers_of}
use Rattle.simplex_values.specs.declared.proposal.Subject.{Subject}
use Rattle.simplex_values.specs.declared.round.Round.{Round}
use Rattle.simplex_wire.specs.declared.attestation.Attestation.{Attestation}
use Rattle.model_faults.specs.Words.{Words, Draws}
use Rattle.model_faults.specs.Heard.{Heard}
use Rattle.model_faults.specs.Equivocator.{Made, leads_next, was_heard, equivocator_drew}
use Rattle.simplex_mocks.specs.declared.views.Views.{Views}
use Rattle.simplex_mocks.specs.declared.equivocator.Equivocator.{Equivocator}

unfoldable pub has_view : Views → ℕ → Bool
has_view views view = set.contains nat_cmp views.views view

-- what it is made with, by what its scheme and elector mean
abbrev pub made_of : {S L : Type 0} → (S → Subject → Option Attestation) → (S → Option ℕ) → (S → ℕ) → (L → Round → ℕ)
    → S → L → ℕ → Words → Made
made_of attests member members elects scheme elector epoch words =
    record {
      attests = attests scheme;
      leader = elects elector;
      me = member scheme;
      members = members scheme;
      epoch = epoch;
      words = words;
    }

-- it is made so, has heard of these views, and of its words those are left that its answers did not take
unfoldable pub StandsFor : {S L : Type 0} → (S → Subject → Option Attestation) → (S → Option ℕ) → (S → ℕ)
    → (L → Round → ℕ) → Equivocator S L → Made → List Heard → Type 0
StandsFor attests member members elects e made before =
    (made ≡ made_of attests member members elects e.scheme e.elector e.epoch made.words)
    × ((view : ℕ) → has_view e.heard view ≡ was_heard before view)
    × Draws (answers_of e.random) made.words (equivocator_drew made before)

-- whatever it is made with and has heard, this holds of it
abbrev pub OfItsPast : {S L : Type 0} → (S → Subject → Option Attestation) → (S → Option ℕ) → (S → ℕ) → (L → Round → ℕ)
    → Equivocator S L → (Made → List Heard → Type 0) → Type 0
OfItsPast attests member members elects e Holds =
    (made : Made) (before : List Heard) → StandsFor attests member members elects e made before → Holds made before

-- who is to answer the proposal of a certificate, if anyone
abbrev pub speaker : Made → List Heard → Proposal → Option ℕ
speaker made before p = if leads_next made p.round.view && not (was_heard before p.round.view) then made.me else None
