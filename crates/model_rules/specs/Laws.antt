-- What a member's notarizes and finalizes say of what it knew.
use Rattle.std.specs.Prelude.{◌≡◌, ℕ, ◌<◌, ◌≤◌, true, false, List, None}
use Rattle.simplex_values.specs.declared.proposal.Proposal.{Proposal}
use Rattle.model_rules.specs.Known.{Made, Fact, view_of, own_notarize, has_nullified, has_finalized}
use Rattle.model_rules.specs.Views.{last_finalized, current_of}
use Rattle.model_rules.specs.Ancestry.{is_covered, has_true_verdict}
use Rattle.model_rules.specs.Votes.{is_checked, is_gated}

-- a notarize stands on a parent with nothing but nullified views between, in a view that is not past and was not voted in
pub record Notarizable (made : Made) (known : List Fact) (p : Proposal) : Type 0 where
  pub parent : p.parent < view_of p
  pub covered : (u : ℕ) → p.parent < u → u < view_of p → is_covered made known u ≡ true
  pub current : 0 < made.term_length → current_of made known ≤ view_of p
  pub free : own_notarize known (view_of p) ≡ None
  pub stays : has_nullified known (view_of p) ≡ false
  pub checked : is_checked known (view_of p) ≡ true

-- a finalize has a true verdict, and no own nullify since the last final view covers its view
pub record Finalizable (made : Made) (known : List Fact) (view : ℕ) : Type 0 where
  pub verdict : has_true_verdict known view ≡ true
  pub above : last_finalized known < view
  pub free : has_finalized known view ≡ false
  pub ungated : is_gated made known view ≡ false
