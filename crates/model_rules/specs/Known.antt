-- What a member knows since its start, and how it is looked up.
use Rattle.std.specs.Prelude.{ℕ, ◌==◌, ◌&&◌, Bool, true, false, List, [], ◌∷◌, Option, Some, None, if◌then◌else◌}
use Rattle.std.specs.List.{list_any}
use Rattle.simplex_values.specs.declared.proposal.Proposal.{Proposal}
use Rattle.simplex_values.specs.declared.round.Round.{Round}
use Rattle.simplex_values.specs.declared.proposal.Subject.{Subject}
use Rattle.simplex_wire.specs.declared.attestation.Attestation.{Attestation}
use Rattle.simplex_wire.specs.declared.vote.Notarize.{Notarize}
use Rattle.simplex_wire.specs.declared.vote.Vote.{Vote}
use Rattle.simplex_wire.specs.declared.vote.Vote.TheVariants as votes
use Rattle.simplex_wire.specs.declared.certificate.Notarization.{Notarization}
use Rattle.simplex_wire.specs.declared.certificate.Nullification.{Nullification}
use Rattle.simplex_wire.specs.declared.certificate.Finalization.{Finalization}
use Rattle.simplex_wire.specs.declared.certificate.Certificate.{Certificate}
use Rattle.simplex_wire.specs.declared.certificate.Certificate.TheVariants as certificates
use Rattle.simplex_values.specs.Proposal.{is_same_proposal}
use Rattle.model_rules.specs.Lists.{first_of}
use Rattle.simplex_values.specs.declared.timeout.TimeoutReason.{TimeoutReason}
use Rattle.simplex_wire.specs.declared.certificate.CertificateKind.{CertificateKind}
use Rattle.simplex_wire.specs.declared.certificate.CertificateKind.TheVariants as kinds
use Rattle.simplex_values.specs.declared.ask.Kind.{Kind}

-- what a member was made with
pub record Made : Type 0 where
  pub signs : Subject → Option Attestation
  pub me : Option ℕ
  pub elects : Round → ℕ
  pub epoch : ℕ
  pub genesis : List ℕ
  pub term_length : ℕ
  pub lookahead : ℕ
  pub stall_timeout : Option ℕ
  pub leader_timeout : ℕ
  pub certification_timeout : ℕ
  pub timeout_retry : ℕ
  pub skip_budget : ℕ
  pub retention : ℕ
  pub handoff : Bool
  pub start : ℕ

-- one thing that a member knows, with its clock where a rule asks for it
pub data Fact : Type 0 where
  -- the floor: its view, or 0 for genesis, and its payload
  FloorAt : (view : ℕ) → (payload : List ℕ) → Fact
  -- a certificate that was added or replayed, or the floor's
  Added : (certificate : Certificate) → (now : ℕ) → Fact
  -- a proposal that was recorded: from the batcher, or the application's own answer
  Taken : (proposal : Proposal) → Fact
  Answered : (proposal : Proposal) → Fact
  -- the application verified the proposal
  Approved : (proposal : Proposal) → Fact
  -- the verdict on the notarization of a view
  Judged : (view : ℕ) → (good : Bool) → (now : ℕ) → Fact
  -- an own vote
  Voted : (vote : Vote) → Fact
  -- an own nullify went out
  Published : (view : ℕ) → (now : ℕ) → Fact
  -- the current view expired; a later view will expire as it becomes current
  Expired : (view : ℕ) → (reason : TimeoutReason) → (now : ℕ) → Fact
  Failed : (view : ℕ) → (reason : TimeoutReason) → Fact
  -- the certificate of this kind and view was handed out for sending, or need not be
  Broadcast : (kind : CertificateKind) → (view : ℕ) → Fact
  -- the application was asked for a proposal of the view; the view may be asked for again
  ProposalAsked : (view : ℕ) → Fact
  ProposalFreed : (view : ℕ) → Fact
  -- the application was asked to verify the proposal, or to certify the view
  VerifyAsked : (proposal : Proposal) → Fact
  CertifyAsked : (view : ℕ) → Fact
  -- for a proposal of the first view, the certificate of this kind of the second was asked for
  MissingAsked : (proposal : ℕ) → (view : ℕ) → (kind : Kind) → Fact
  -- for a proposal of the view, its parent's notarization was asked for
  ParentAsked : (proposal : ℕ) → Fact
  -- the journal was pruned below the view
  Pruned : (view : ℕ) → Fact

-- ---- looking up. What is known is a list of facts, the newest first

abbrev pub view_of : Proposal → ℕ
view_of proposal = proposal.round.view

abbrev pub is_same_kind : CertificateKind → CertificateKind → Bool
is_same_kind kinds.Notarization kinds.Notarization = true
is_same_kind kinds.Nullification kinds.Nullification = true
is_same_kind kinds.Finalization kinds.Finalization = true
is_same_kind _ _ = false

-- ---- certificates: of one view and kind the first counts

abbrev pub notarization_in : ℕ → Fact → Option Notarization
notarization_in view (Added (certificates.Notarization n) now) = if view_of n.proposal == view then Some n else None
notarization_in view _ = None

unfoldable pub notarization_of : List Fact → ℕ → Option Notarization
notarization_of known view = first_of (notarization_in view) known

abbrev pub nullification_in : ℕ → Fact → Option Nullification
nullification_in view (Added (certificates.Nullification n) now) = if n.round.view == view then Some n else None
nullification_in view _ = None

unfoldable pub nullification_of : List Fact → ℕ → Option Nullification
nullification_of known view = first_of (nullification_in view) known

abbrev pub finalization_in : ℕ → Fact → Option Finalization
finalization_in view (Added (certificates.Finalization f) now) = if view_of f.proposal == view then Some f else None
finalization_in view _ = None

unfoldable pub finalization_of : List Fact → ℕ → Option Finalization
finalization_of known view = first_of (finalization_in view) known

abbrev pub is_broadcast_in : CertificateKind → ℕ → Fact → Bool
is_broadcast_in kind view (Broadcast k v) = is_same_kind k kind && v == view
is_broadcast_in kind view _ = false

unfoldable pub was_broadcast : List Fact → CertificateKind → ℕ → Bool
was_broadcast known kind view = list_any (is_broadcast_in kind view) known

-- ---- verdicts

abbrev pub verdict_in : ℕ → Fact → Option Bool
verdict_in view (Judged v good now) = if v == view then Some good else None
verdict_in view _ = None

unfoldable pub verdict_of : List Fact → ℕ → Option Bool
verdict_of known view = first_of (verdict_in view) known

-- ---- proposals

-- the first that was taken or answered
abbrev pub proposal_in : ℕ → Fact → Option Proposal
proposal_in view (Taken p) = if view_of p == view then Some p else None
proposal_in view (Answered p) = if view_of p == view then Some p else None
proposal_in view _ = None

unfoldable pub proposal_of : List Fact → ℕ → Option Proposal
proposal_of known view = first_of (proposal_in view) known

abbrev pub is_answer_in : Proposal → Fact → Bool
is_answer_in proposal (Answered p) = is_same_proposal p proposal
is_answer_in proposal _ = false

-- whether the member proposed it itself
unfoldable pub was_answered : List Fact → Proposal → Bool
was_answered known proposal = list_any (is_answer_in proposal) known

abbrev pub is_approval_in : Proposal → Fact → Bool
is_approval_in proposal (Approved p) = is_same_proposal p proposal
is_approval_in proposal _ = false

-- whether the application verified it
unfoldable pub was_approved : List Fact → Proposal → Bool
was_approved known proposal = list_any (is_approval_in proposal) known

-- ---- own votes

abbrev pub notarize_in : ℕ → Fact → Option Notarize
notarize_in view (Voted (votes.Notarize n)) = if view_of n.proposal == view then Some n else None
notarize_in view _ = None

unfoldable pub own_notarize : List Fact → ℕ → Option Notarize
own_notarize known view = first_of (notarize_in view) known

abbrev pub is_nullify_in : ℕ → Fact → Bool
is_nullify_in view (Voted (votes.Nullify n)) = n.round.view == view
is_nullify_in view _ = false

unfoldable pub has_nullified : List Fact → ℕ → Bool
has_nullified known view = list_any (is_nullify_in view) known

abbrev pub is_finalize_in : ℕ → Fact → Bool
is_finalize_in view (Voted (votes.Finalize f)) = view_of f.proposal == view
is_finalize_in view _ = false

unfoldable pub has_finalized : List Fact → ℕ → Bool
has_finalized known view = list_any (is_finalize_in view) known

-- ---- clocks

-- the clock of a fact that can move the member to another view
abbrev pub clock_of : Fact → ℕ
clock_of (Added certificate now) = now
clock_of (Judged view good now) = now
clock_of _ = 0

-- when the number came to be what it is: at the start, or with the last fact that changed it
unfoldable pub reached : (List Fact → ℕ) → ℕ → List Fact → ℕ
reached number start [] = start
reached number start (fact ∷ known) =
    if number (fact ∷ known) == number known then reached number start known else clock_of fact
