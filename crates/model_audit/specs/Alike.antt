-- What votes and the current view rest on.
use Rattle.std.specs.Prelude.{◌≡◌, Bool, true, false, List, filter}
use Rattle.model_rules.specs.Known.{Fact, Judged, Voted}
use Rattle.law_member.specs.Learned.{additions}
use Rattle.law_member.specs.Tidings.{of_proposals}

abbrev pub is_verdict : Fact → Bool
is_verdict (Judged view good now) = true
is_verdict _ = false

abbrev pub is_vote : Fact → Bool
is_vote (Voted vote) = true
is_vote _ = false

abbrev pub verdicts : List Fact → List Fact
verdicts known = filter is_verdict known

abbrev pub own_votes : List Fact → List Fact
own_votes known = filter is_vote known

-- Both know the same certificates, verdicts, own votes and proposals, those of each kind in the same order. What one knows
-- besides, and how the kinds stand among each other, is left open
pub record AreAlike (a b : List Fact) : Type 0 where
  pub certificates : additions a ≡ additions b
  pub judged : verdicts a ≡ verdicts b
  pub voted : own_votes a ≡ own_votes b
  pub proposals : of_proposals a ≡ of_proposals b
