-- What the facts say of one view.
use Rattle.std.specs.Prelude.{ℕ, ◌==◌, ◌&&◌, ◌||◌, not, Bool, true, false, List, Option, Some, None, unwrap_or, if◌then◌else◌}
use Rattle.std.specs.List.{list_any}
use Rattle.std.specs.Option.{option_or, option_map, option_map_or, is_none}
use Rattle.simplex_values.specs.Maps.{found}
use Rattle.std.specs.BTreeMap.{BTreeMap}
use Rattle.simplex_values.specs.declared.proposal.Proposal.{Proposal}
use Rattle.simplex_values.specs.Proposal.{is_same_proposal}
use Rattle.simplex_wire.specs.declared.vote.Vote.TheVariants as votes
use Rattle.simplex_wire.specs.declared.certificate.Certificate.TheVariants as certificates
use Rattle.model_rules.specs.Lists.{first_of}
use Rattle.model_rules.specs.Known.{Fact, FloorAt, Added, Taken, Answered, Approved, Judged, Voted, Expired, Failed, ProposalAsked, ProposalFreed, VerifyAsked, CertifyAsked, ParentAsked, view_of, notarization_of, finalization_of, own_notarize, proposal_of, has_finalized, verdict_of}
use Rattle.model_rules.specs.Ancestry.{floor_in}
use Rattle.model_rules.specs.Deadline.{expired_in, failed_in}
use Rattle.model_rules.specs.Requests.{was_proposal_asked, verify_asked, is_certify_in, is_parent_in}
use Rattle.simplex_state.specs.declared.rounds.RoundRecord.{RoundRecord}

-- the record of a view of which nothing is known
abbrev pub blank : RoundRecord
blank =
    record {
      floor = None;
      notarized = None;
      finalized = None;
      voted = None;
      proposed = None;
      answered = false;
      asked = None;
      approved = false;
      voted_final = false;
      verdict = None;
      expired = None;
      failed = None;
      proposal_asked = false;
      certify_asked = false;
      parent_asked = false;
    }

-- the record of a view, blank where there is none
unfoldable pub round_in : BTreeMap ℕ RoundRecord → ℕ → RoundRecord
round_in rounds view = unwrap_or (found rounds view) blank

abbrev pub is_answer_of : ℕ → Fact → Bool
is_answer_of view (Answered p) = view_of p == view
is_answer_of view _ = false

abbrev pub is_approval_of : ℕ → Fact → Bool
is_approval_of view (Approved p) = view_of p == view
is_approval_of view _ = false

-- what is known of a view
unfoldable pub round_of : List Fact → ℕ → RoundRecord
round_of known view =
    record {
      floor = first_of (floor_in view) known;
      notarized = option_map (λ n. n.proposal) (notarization_of known view);
      finalized = option_map (λ f. f.proposal) (finalization_of known view);
      voted = option_map (λ v. v.proposal) (own_notarize known view);
      proposed = proposal_of known view;
      answered = list_any (is_answer_of view) known;
      asked = verify_asked known view;
      approved = list_any (is_approval_of view) known;
      voted_final = has_finalized known view;
      verdict = verdict_of known view;
      expired = first_of (expired_in view) known;
      failed = first_of (failed_in view) known;
      proposal_asked = was_proposal_asked known view;
      certify_asked = list_any (is_certify_in view) known;
      parent_asked = list_any (is_parent_in view) known;
    }

-- what one more fact changes of it
unfoldable pub learn_round : Fact → ℕ → RoundRecord → RoundRecord
learn_round (FloorAt v payload) view r = if v == view then record r { floor = option_or r.floor (Some payload) } else r
learn_round (Added (certificates.Notarization n) now) view r =
    if view_of n.proposal == view then record r { notarized = option_or r.notarized (Some n.proposal) } else r
learn_round (Added (certificates.Finalization f) now) view r =
    if view_of f.proposal == view then record r { finalized = option_or r.finalized (Some f.proposal) } else r
learn_round (Taken p) view r = if view_of p == view then record r { proposed = option_or r.proposed (Some p) } else r
learn_round (Answered p) view r =
    if view_of p == view then record r { proposed = option_or r.proposed (Some p); answered = true } else r
learn_round (Approved p) view r = if view_of p == view then record r { approved = true } else r
learn_round (Judged v good now) view r = if v == view then record r { verdict = option_or r.verdict (Some good) } else r
learn_round (Voted (votes.Notarize n)) view r =
    if view_of n.proposal == view then record r { voted = option_or r.voted (Some n.proposal) } else r
learn_round (Voted (votes.Finalize f)) view r =
    if view_of f.proposal == view then record r { voted_final = true } else r
learn_round (Expired v reason now) view r =
    if v == view then record r { expired = option_or r.expired (Some (now, reason)) } else r
learn_round (Failed v reason) view r = if v == view then record r { failed = option_or r.failed (Some reason) } else r
learn_round (ProposalAsked v) view r = if v == view then record r { proposal_asked = true } else r
learn_round (ProposalFreed v) view r = if v == view then record r { proposal_asked = false } else r
learn_round (VerifyAsked p) view r = if view_of p == view then record r { asked = option_or r.asked (Some p) } else r
learn_round (CertifyAsked v) view r = if v == view then record r { certify_asked = true } else r
learn_round (ParentAsked v) view r = if v == view then record r { parent_asked = true } else r
learn_round _ view r = r

-- ---- rules that one record decides

abbrev pub is_named : Option Proposal → Proposal → Bool
is_named slot proposal = option_map_or (λ p. is_same_proposal p proposal) slot false

unfoldable pub slot_in : RoundRecord → Option Proposal
slot_in r = option_or r.notarized (option_or r.finalized (option_or r.voted r.proposed))

unfoldable pub is_vouched_in : RoundRecord → Proposal → Bool
is_vouched_in r proposal =
    is_named r.voted proposal || (r.answered && is_named r.proposed proposal)
    || (r.approved && is_named r.asked proposal)

unfoldable pub is_checked_in : RoundRecord → Bool
is_checked_in r =
    option_map_or
    (λ p. is_vouched_in r p && (is_none r.notarized || is_named r.notarized p)
    && (is_none r.finalized || is_named r.finalized p))
    (slot_in r)
    false

unfoldable pub own_slot_in : RoundRecord → Bool
own_slot_in r = option_map_or (λ p. r.answered && is_named r.proposed p) (slot_in r) false

-- whether the notarization waits for its verdict, and the application was not asked for it
unfoldable pub is_open : RoundRecord → Bool
is_open r = is_none r.verdict && not r.certify_asked
