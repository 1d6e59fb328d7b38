-- Small worlds: one that is lawful, and for each property one that lacks it alone and has a conflict.
use Rattle.std.specs.Prelude.{ℕ, ◌==◌, if◌then◌else◌, Bool, true, false, ◌<◌, ◌≤◌, List, [], ◌∷◌, length, replicate, All, AllPairs, Contains}
use Rattle.simplex_values.specs.declared.proposal.Proposal.{Proposal}
use Rattle.simplex_values.specs.declared.proposal.Subject.{Subject}
use Rattle.simplex_values.specs.declared.proposal.Subject.TheVariants.{Notarize, Nullify, Finalize}
use Rattle.simplex_values.specs.declared.round.Round.{Round}
use Rattle.simplex_values.specs.Quorum.{max_faulty}
use Rattle.law_agreement.specs.World.{Certificate, Sent, World, IsBacked, MayStand, MayFollow}
use Rattle.law_agreement.specs.Conflict.{Conflict}

-- the five properties of a member's votes, that what a member knows is backed, and that few are faulty
pub data Property : Type 0 where
  -- of one view at most one proposal is notarized, and at most one finalized
  OneProposal : Property
  -- a view that was finalized is not nullified
  FinalStays : Property
  -- a view that was nullified is finalized only behind a final view that the nullify covers
  NullifiedStays : Property
  -- a proposal is notarized only where all views between its parent and it are nullified
  ParentIsNext : Property
  -- a proposal is finalized only where it is notarized
  NotarizedFirst : Property
  -- what is known is backed
  KnownIsBacked : Property
  -- at most f members are faulty
  FewAreFaulty : Property

-- whether the property is about an earlier and a later vote like these
abbrev pub is_on_pair : Property → Subject → Subject → Bool
is_on_pair OneProposal (Notarize p) (Notarize q) = true
is_on_pair OneProposal (Finalize p) (Finalize q) = true
is_on_pair FinalStays (Finalize p) (Nullify s) = true
is_on_pair NullifiedStays (Nullify r) (Finalize q) = true
is_on_pair _ _ _ = false

-- whether the property is about a vote like this by itself
abbrev pub is_on_vote : Property → Subject → Bool
is_on_vote ParentIsNext (Notarize p) = true
is_on_vote NotarizedFirst (Finalize p) = true
is_on_vote _ _ = false

-- whether it is about what is known at a vote
abbrev pub is_on_known : Property → Bool
is_on_known KnownIsBacked = true
is_on_known _ = false

-- whether it is about how many members are faulty
abbrev pub is_on_faulty : Property → Bool
is_on_faulty FewAreFaulty = true
is_on_faulty _ = false

-- where the test fails, the fact holds
abbrev pub Unless : Bool → Type 0 → Type 0
Unless true P = Unit {0}
Unless false P = P

-- the votes of a member that is honest but for one property
pub record IsHonestBut (property : Property) (w : World) (sent : List Sent) : Type 0 where
  pub alone : All (λ s. Unless (is_on_vote property s.subject) (MayStand w.term_length s.subject s.known)) sent
  pub order : AllPairs (λ s t. Unless (is_on_pair property s.subject t.subject)
      (MayFollow w.term_length s.subject t.subject t.known)) sent
  pub backed : All (λ s. Unless (is_on_known property) (All (IsBacked w) s.known)) sent

-- a world that is lawful but for one property
pub record IsLawfulBut (property : Property) (w : World) : Type 0 where
  pub members : 0 < w.members
  pub term_length : 0 < w.term_length
  pub faulty : Unless (is_on_faulty property) (length w.faulty ≤ max_faulty w.members)
  pub honest : (i : ℕ) → i < w.members → ¬ (Contains w.faulty i) → IsHonestBut property w (w.history i)

-- four members and terms of two views. The last member is faulty, the other three send the same votes
abbrev pub world_of : List Sent → World
world_of votes = record { members = 4; term_length = 2; faulty = 3 ∷ []; history = λ i. votes }

-- the certificate of these three
abbrev pub signed : Subject → Certificate
signed subject = record { subject = subject; signers = 0 ∷ 1 ∷ 2 ∷ [] }

-- a vote on the subject, at which these certificates were known
abbrev pub vote : Subject → List Certificate → Sent
vote subject known = record { subject = subject; known = known }

-- the round of this view, in epoch 0
abbrev pub round_of : ℕ → Round
round_of view = record { epoch = 0; view = view }

-- the proposal for this view, on that parent, of a payload of 32 such bytes
abbrev pub proposal_of : ℕ → ℕ → ℕ → Proposal
proposal_of view parent byte = record { round = round_of view; parent = parent; payload = replicate 32 byte }

-- a proposal for view 1
abbrev pub first : Proposal
first = proposal_of 1 0 7

-- another proposal for view 1
abbrev pub rival : Proposal
rival = proposal_of 1 0 8

-- a proposal for view 2 that stands on genesis
abbrev pub skipping : Proposal
skipping = proposal_of 2 0 7

-- a proposal for view 3 that stands on view 1
abbrev pub third : Proposal
third = proposal_of 3 1 7

-- view 1 becomes final, view 2 is given up, and view 3 becomes final on view 1
abbrev pub good_votes : List Sent
good_votes =
    vote (Notarize first) []
    ∷ vote (Finalize first) (signed (Notarize first) ∷ [])
    ∷ vote (Nullify (round_of 2)) []
    ∷ vote (Notarize third) (signed (Nullify (round_of 2)) ∷ [])
    ∷ vote (Finalize third) (signed (Notarize third) ∷ [])
    ∷ []

-- both proposals for view 1 are notarized
abbrev pub two_proposals : List Sent
two_proposals = vote (Notarize first) [] ∷ vote (Notarize rival) [] ∷ []

-- view 1 is finalized, and then nullified
abbrev pub nullify_behind : List Sent
nullify_behind =
    vote (Notarize first) [] ∷ vote (Finalize first) (signed (Notarize first) ∷ [])
    ∷ vote (Nullify (round_of 1)) [] ∷ []

-- view 1 is nullified, and then finalized
abbrev pub finalize_behind : List Sent
finalize_behind =
    vote (Notarize first) [] ∷ vote (Nullify (round_of 1)) []
    ∷ vote (Finalize first) (signed (Notarize first) ∷ []) ∷ []

-- view 1 is final, and a proposal for view 2 that stands on genesis is notarized
abbrev pub parent_skipped : List Sent
parent_skipped =
    vote (Notarize first) [] ∷ vote (Finalize first) (signed (Notarize first) ∷ []) ∷ vote (Notarize skipping) [] ∷ []

-- one proposal for view 1 is notarized, and the other finalized
abbrev pub not_notarized : List Sent
not_notarized = vote (Notarize first) [] ∷ vote (Finalize rival) [] ∷ []

-- view 1 is final, and a proposal for view 2 is notarized on the word of a nullification that nobody signed
abbrev pub not_backed : List Sent
not_backed =
    vote (Notarize first) []
    ∷ vote (Finalize first) (signed (Notarize first) ∷ [])
    ∷ vote (Notarize skipping) (record { subject = Nullify (round_of 1); signers = [] } ∷ [])
    ∷ []

-- four members of which two are faulty. The first one notarizes a proposal for view 1, the second one the other
abbrev pub crowded : World
crowded =
    record {
      members = 4;
      term_length = 2;
      faulty = 2 ∷ 3 ∷ [];
      history = λ i. if i == 0 then vote (Notarize first) [] ∷ [] else vote (Notarize rival) [] ∷ [];
    }

-- in the world all holds but this property, and the two certificates are backed and conflict
pub record IsNeeded (property : Property) (w : World) (a b : Certificate) : Type 0 where
  pub lawful : IsLawfulBut property w
  pub first : IsBacked w a
  pub second : IsBacked w b
  pub conflict : Conflict w.term_length a.subject b.subject
