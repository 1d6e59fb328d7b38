-- Which facts are kept.
use Rattle.std.specs.Prelude.{◌≡◌, ℕ, Bool, true, List, ◌∷◌, ◌++◌, Option}
use Rattle.std.specs.Option.{option_map_or}
use Rattle.simplex_values.specs.declared.proposal.Proposal.{Proposal}
use Rattle.simplex_values.specs.Proposal.{is_same_proposal}
use Rattle.simplex_wire.specs.declared.artifact.Artifact.{Artifact}
use Rattle.simplex_state.specs.Ranges.{holds}
use Rattle.model_rules.specs.Known.{Made, Fact, was_answered, was_approved, has_nullified}
use Rattle.model_rules.specs.Views.{last_finalized, current_of}
use Rattle.model_rules.specs.Ancestry.{is_covered}
use Rattle.model_rules.specs.Calls.{replay_facts}
use Rattle.simplex_known.specs.declared.known.Known.{Known}
use Rattle.simplex_known.specs.declared.rules.Rules.{Rules}
use Rattle.simplex_known.specs.Covers.{CoversStand}
use Rattle.simplex_known.specs.Proposals.{has_proposal}
use Rattle.simplex_known.specs.Rounds.{round_in, round_of}

-- the rules are those that the node is made with
pub record AreRulesOf (made : Made) (rules : Rules) : Type 0 where
  pub epoch : rules.epoch ≡ made.epoch
  pub term_length : rules.lookahead.length ≡ made.term_length
  pub lookahead : rules.lookahead.views ≡ made.lookahead
  pub retention : rules.retention ≡ made.retention

-- exactly these facts are kept, as far as votes rest on them, of a node that is so made
pub record Knows (kept : Known) (made : Made) (known : List Fact) : Type 0 where
  pub rules : AreRulesOf made kept.rules
  pub length : kept.covers.length ≡ made.term_length
  pub final : kept.last_finalized ≡ last_finalized known
  pub current : kept.current ≡ current_of made known
  pub rounds : (view : ℕ) → round_in kept.rounds view ≡ round_of known view
  pub given_up : (view : ℕ) → holds kept.given_up view ≡ has_nullified known view
  pub covers : CoversStand kept.covers (is_covered made known)
  pub answered : (p : Proposal) → has_proposal kept.answered p ≡ was_answered known p
  pub approved : (p : Proposal) → has_proposal kept.approved p ≡ was_approved known p

-- whatever facts were kept, this one is kept with them
abbrev pub Learns : Known → Known → Fact → Type 0
Learns old new fact = (made : Made) (known : List Fact) → Knows old made known → Knows new made (fact ∷ known)

-- whatever facts were kept, those that a record of the journal tells are kept with them
abbrev pub Relearns : Known → Known → Artifact → Type 0
Relearns old new artifact =
    (made : Made) (known : List Fact) (now : ℕ) → Knows old made known → Knows new made (replay_facts made known artifact now ++ known)

-- whatever facts are kept, the answer is the rule's at them
abbrev pub Answers : {R : Type 0} → Known → (Made → List Fact → R) → R → Type 0
Answers kept rule answer = (made : Made) (known : List Fact) → Knows kept made known → answer ≡ rule made known

-- it is no other proposal than this one
abbrev pub names_only : Option Proposal → Proposal → Bool
names_only slot proposal = option_map_or (λ p. is_same_proposal p proposal) slot true
