use Rattle.std.proofs.Common.{inl, inr}
use Rattle.std.proofs.lemmas.Bool.{cases_lt}
use Rattle.simplex_values.specs.Terms.{next_term_start}
use Rattle.law_agreement.proofs.TermFacts.{Covers-from_end, before_next}
use Rattle.law_agreement.proofs.terms.terms_hold.Goals as goal

pub returns-clause-past : goal.returns-clause-past
returns-clause-past c length u w pos le outside =
    elim (cases_lt w (next_term_start length u)) [
      | inl h ↦ absurd (outside (Covers-from_end length u w pos le (before_next length u w h)))
      | inr h ↦ h
    ]
