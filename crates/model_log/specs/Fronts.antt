-- When two logs are of one chain.
use Rattle.std.specs.Prelude.{ℕ, ◌≡◌, ◌<◌, ◌≤◌, ◌⊎◌, ◌++◌, Bool, List, Contains}
use Rattle.simplex_values.specs.declared.proposal.Proposal.{Proposal}
use Rattle.simplex_types.specs.declared.activity.Activity.{Activity}
use Rattle.model_log.specs.Links.{proposals_of, finals_of}

-- the first list begins the second
abbrev pub IsFrontOf : {X : Type 0} → List X → List X → Type 0
IsFrontOf {X} xs ys = (rest : List X) × (ys ≡ xs ++ rest)

-- one of them begins the other
abbrev pub AreFronts : {X : Type 0} → List X → List X → Type 0
AreFronts xs ys = IsFrontOf xs ys ⊎ IsFrontOf ys xs

-- one proposal at most is of a view, and none above a final view has its parent below it
pub record AreOfOneChain (proposals : List Proposal) (finals : List ℕ) : Type 0 where
  pub one : (p q : Proposal) → Contains proposals p → Contains proposals q → p.round.view ≡ q.round.view → p ≡ q
  pub kept : (view : ℕ) (p : Proposal) → Contains finals view
      → Contains proposals p → view < p.round.view → view ≤ p.parent

-- so it is with what these activities name
abbrev pub AreConsistent : (Activity → Bool) → List Activity → Type 0
AreConsistent verifies activities = AreOfOneChain (proposals_of verifies activities) (finals_of verifies activities)
