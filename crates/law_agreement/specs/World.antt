-- What the members sent and what they knew, and the certificates that this backs.
use Rattle.std.specs.Prelude.{ℕ, ◌≡◌, ◌≤◌, ◌<◌, ◌⊎◌, List, length, All, AllPairs, Contains}
use Rattle.simplex_values.specs.declared.proposal.Proposal.{Proposal}
use Rattle.simplex_values.specs.declared.proposal.Subject.{Subject}
use Rattle.simplex_values.specs.declared.proposal.Subject.TheVariants.{Notarize, Nullify, Finalize}
use Rattle.simplex_values.specs.declared.round.Round.{Round}
use Rattle.simplex_values.specs.Quorum.{max_faulty}
use Rattle.law_agreement.specs.Quorums.{IsQuorum}
use Rattle.law_agreement.specs.Terms.{Covers}

-- a subject, and who signed it
pub record Certificate : Type 0 where
  pub subject : Subject
  pub signers : List ℕ

-- a vote that a member sent, and the certificates that it knew when it made the vote
pub record Sent : Type 0 where
  pub subject : Subject
  pub known : List Certificate

-- how many members there are, how long a term is, which members are faulty, and for each member the
-- votes that it sent, in the order in which it sent them
pub record World : Type 0 where
  pub members : ℕ
  pub term_length : ℕ
  pub faulty : List ℕ
  pub history : ℕ → List Sent

-- the view that a proposal is for, without its epoch
abbrev pub view_of : Proposal → ℕ
view_of p = p.round.view

-- the member sent a vote on the subject
abbrev pub HasSent : World → ℕ → Subject → Type 0
HasSent w member subject = (known : List Certificate)
    × Contains (w.history member) (record { subject = subject; known = known })

-- a quorum signed the certificate, and each signer is faulty or sent the vote
pub record IsBacked (w : World) (c : Certificate) : Type 0 where
  pub quorum : IsQuorum w.members c.signers
  pub signed : All (λ i. Contains w.faulty i ⊎ HasSent w i c.subject) c.signers

-- a certificate on the subject is known
abbrev pub Knows : List Certificate → Subject → Type 0
Knows known subject = (signers : List ℕ) × Contains known (record { subject = subject; signers = signers })

-- a finalization of a view from u to below w is known
abbrev pub KnowsFinalized : List Certificate → ℕ → ℕ → Type 0
KnowsFinalized known u w = (p : Proposal) × Knows known (Finalize p) × (u ≤ view_of p) × (view_of p < w)

-- a nullification that covers the view is known
abbrev pub KnowsNullified : ℕ → List Certificate → ℕ → Type 0
KnowsNullified length known view = (r : Round) × Knows known (Nullify r) × Covers length r.view view

-- what a vote needs to be known: for a notarize a nullification of each view between the parent and
-- the proposal, for a finalize the notarization of its proposal
abbrev pub MayStand : ℕ → Subject → List Certificate → Type 0
MayStand length (Notarize p) known = (x : ℕ) → p.parent < x → x < view_of p → KnowsNullified length known x
MayStand length (Nullify r) known = Unit {0}
MayStand length (Finalize p) known = Knows known (Notarize p)

-- what an earlier vote asks of a later one, at which this was known: of one view at most one proposal
-- is notarized and at most one finalized; a view that was finalized is not nullified; a view that was
-- nullified is finalized only behind a final view of the term that the nullify covers
abbrev pub MayFollow : ℕ → Subject → Subject → List Certificate → Type 0
MayFollow length (Notarize p) (Notarize q) known = view_of p ≡ view_of q → p ≡ q
MayFollow length (Notarize p) (Nullify s) known = Unit {0}
MayFollow length (Notarize p) (Finalize q) known = Unit {0}
MayFollow length (Nullify r) (Notarize q) known = Unit {0}
MayFollow length (Nullify r) (Nullify s) known = Unit {0}
MayFollow length (Nullify r) (Finalize q) known =
    Covers length r.view (view_of q) → KnowsFinalized known r.view (view_of q)
MayFollow length (Finalize p) (Notarize q) known = Unit {0}
MayFollow length (Finalize p) (Nullify s) known = ¬ (Covers length s.view (view_of p))
MayFollow length (Finalize p) (Finalize q) known = view_of p ≡ view_of q → p ≡ q

-- each vote of an honest member may stand by itself, each may follow all that were sent before it, and
-- each certificate that the member knew is backed
pub record IsHonest (w : World) (sent : List Sent) : Type 0 where
  pub alone : All (λ s. MayStand w.term_length s.subject s.known) sent
  pub order : AllPairs (λ s t. MayFollow w.term_length s.subject t.subject t.known) sent
  pub backed : All (λ s. All (IsBacked w) s.known) sent

-- there are members and views to a term, few members are faulty, and all others are honest
pub record IsLawful (w : World) : Type 0 where
  pub members : 0 < w.members
  pub term_length : 0 < w.term_length
  pub faulty : length w.faulty ≤ max_faulty w.members
  pub honest : (i : ℕ) → i < w.members → ¬ (Contains w.faulty i) → IsHonest w (w.history i)
