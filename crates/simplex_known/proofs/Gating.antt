-- Whether a view that was given up gates another, by the greatest that was.
use Rattle.std.proofs.Common.{◌≡◌, ℕ, ◌≤◌, ◌&&◌, nat_lt, Bool, true, false, List, sym, ap, ◌∙◌, arith}
use Rattle.simplex_values.specs.Covers.{covers}
use Rattle.simplex_state.specs.Ranges.{holds}
use Rattle.simplex_state.proofs.Gates.{gate_free, gated_by_last}
use Rattle.model_rules.specs.Known.{Made, Fact}
use Rattle.model_rules.specs.Votes.{is_gated}
use Rattle.simplex_known.specs.declared.known.Known.{Known}
use Rattle.simplex_known.specs.Knows.{Knows}

module _ (kept : Known) (made : Made) (known : List Fact) (k : Knows kept made known) where
  pub ungated : (view : ℕ) → ((q : ℕ) → q ≤ view → holds kept.given_up q ≡ false) → is_gated made known view ≡ false
  ungated view none = gate_free made known view (λ q le. sym (k.given_up q) ∙ none q le)

  pub gated_is : (view last : ℕ) (above same : Bool)
      → holds kept.given_up last ≡ true
      → last ≤ view
      → ((q : ℕ) → q ≤ view → holds kept.given_up q ≡ true → q ≤ last)
      → nat_lt kept.last_finalized last ≡ above
      → covers kept.rules.lookahead.length last view ≡ same
      → is_gated made known view ≡ (above && same)
  gated_is view last above same member bound greatest is_above is_same =
      gated_by_last made known view last above same
      (sym (ap (λ at. nat_lt at last) k.final) ∙ is_above)
      (sym (ap (λ length. covers length last view) k.rules.term_length) ∙ is_same)
      (sym (k.given_up last) ∙ member)
      bound
      (λ q le given. greatest q le (k.given_up q ∙ given))
      (omega (arith, k.covers.some_length, k.length))
