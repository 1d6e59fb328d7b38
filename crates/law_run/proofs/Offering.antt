-- Where own votes name the batcher's epoch, so does each proposal that it hands to its voter.
use Rattle.simplex_types.specs.declared.cause.BlockCause.TheVariants.{WrongSender}
use Rattle.simplex_types.specs.declared.cause.BlockCause.{BlockCause}
use Rattle.std.proofs.Common.{◌≡◌, ℕ, zero, suc, ◌==◌, ◌||◌, ◌&&◌, nat_le, nat_lt, Bool, true, false, List, [], ◌∷◌, ◌++◌, length, map, filter, All, option_to_list, Option, Some, None, Result, Ok, Err, ◌∙◌, eqb-true, if◌then◌else◌}
use Rattle.std.proofs.lemmas.List.Elements.{All-nil, All-map, All-weaker}
use Rattle.simplex_values.specs.declared.proposal.Subject.{Subject}
use Rattle.simplex_values.specs.declared.proposal.Subject.TheVariants as subjects
use Rattle.simplex_wire.specs.declared.attestation.Attestation.{Attestation}
use Rattle.simplex_wire.specs.declared.error.DecodeError.{DecodeError}
use Rattle.simplex_wire.specs.declared.vote.Vote.TheVariants as wire
use Rattle.simplex_wire.specs.Format.{whole}
use Rattle.simplex_wire.specs.Message as format
use Rattle.std.specs.Option.{IfSome, is_some, option_map, option_map_or, option_and_then, unwrap_or}
use Rattle.simplex_values.specs.declared.proposal.Proposal.{Proposal}
use Rattle.simplex_values.specs.declared.policy.SkipPolicy.{SkipPolicy}
use Rattle.simplex_values.specs.declared.policy.SkipPolicy.TheVariants as skip
use Rattle.simplex_values.specs.declared.timeout.TimeoutReason.{TimeoutReason}
use Rattle.simplex_values.specs.declared.timeout.TimeoutReason.TheVariants.{Inactivity, LeaderNullify}
use Rattle.simplex_values.specs.Terms.{is_in_window}
use Rattle.simplex_wire.specs.declared.vote.Vote.{Vote}
use Rattle.simplex_wire.specs.declared.certificate.Certificate.{Certificate}
use Rattle.simplex_wire.specs.declared.certificate.Certificate.TheVariants as certificates
use Rattle.simplex_wire.specs.declared.certificate.CertificateKind.{CertificateKind}
use Rattle.simplex_wire.specs.declared.certificate.CertificateKind.TheVariants as kinds
use Rattle.simplex_round.specs.declared.ballot.Ballot.{Ballot}
use Rattle.simplex_round.specs.declared.batch.Batch.{Batch}
use Rattle.simplex_round.specs.declared.evidence.Evidence.{Evidence}
use Rattle.simplex_round.specs.Known as known
use Rattle.simplex_round.specs.Known.{Known}
use Rattle.simplex_round.specs.Votes.{vote_kind, vote_signer, vote_proposal, certificate_on}
use Rattle.simplex_round.specs.Acceptance as votes
use Rattle.simplex_round.specs.Acceptance.{Heard, accused, heard_beside, heard, heard_from, was_given}
use Rattle.simplex_round.specs.Assembly as assembly
use Rattle.simplex_round.specs.Assembly.{Work, after_assembly, after_work, first_work}
use Rattle.simplex_round.specs.Forwarding as proposals
use Rattle.simplex_round.specs.Forwarding.{after_certificate, forwarded_to_voter}
use Rattle.simplex_round.specs.Calls as rounds
use Rattle.simplex_messages.specs.declared.batcher.BatcherInput.{BatcherInput}
use Rattle.simplex_messages.specs.declared.batcher.BatcherInput.TheVariants as input
use Rattle.simplex_messages.specs.declared.batcher.Message.TheVariants as batcher
use Rattle.simplex_messages.specs.declared.voter.Message.TheVariants as voter
use Rattle.simplex_messages.specs.declared.handed.Handed.TheVariants as handed
use Rattle.model_steps.specs.Batcher.{Made, Timed, RoundHistory, Standing, Doing, at_first, begun, number_of, known_in, called, leader_nullified, hinting, hinting_nullify, is_me, is_active, hinted_at_vote, hinted_at_update, and_blocked, seen_now, took_vote, kept_certificate, took_certificate, heard_vote, heard_certificate, forwarding, vote_view, vote_epoch, certificate_view, certificate_epoch, retains_view, admits_view, led, new_round, round_for, with_round, with_heard, took_constructed, window_views, with_leader, took_update, forwarded, with_batch, constructing, constructing_times, worked, worked_all, dropped, acted, finished, step, standing_after, step_out}
use Rattle.law_member.proofs.Choices.{if_case, either_case, default_case, map_case, found_case, and_then_case}
use Rattle.law_member.proofs.Ballots.{placed_each}
use Rattle.law_run.specs.Sayings.{Each}
use Rattle.law_run.specs.Naming.{IsProposalOf, IsMailOf}
use Rattle.law_run.proofs.Speaking.{Each-append, Each-map}

-- ---- what a round holds is of the epoch

abbrev BallotOf : ℕ → Ballot → Type 0
BallotOf e b = vote_epoch b.vote ≡ e

abbrev CertificateOf : ℕ → Certificate → Type 0
CertificateOf e (certificates.Notarization c) = c.proposal.round.epoch ≡ e
CertificateOf e (certificates.Finalization c) = c.proposal.round.epoch ≡ e
CertificateOf e (certificates.Nullification c) = Unit {0}

abbrev SubjectOf : ℕ → Subject → Type 0
SubjectOf e (subjects.Notarize p) = p.round.epoch ≡ e
SubjectOf e (subjects.Finalize p) = p.round.epoch ≡ e
SubjectOf e (subjects.Nullify r) = Unit {0}

abbrev ProposalOf : ℕ → Proposal → Type 0
ProposalOf e p = p.round.epoch ≡ e

record HeldOf (e : ℕ) (k : Known) : Type 0 where
  pub notarizes : All (BallotOf e) k.notarizes
  pub others : All (BallotOf e) k.others
  pub notarization : IfSome k.notarization (λ c. c.proposal.round.epoch ≡ e)
  pub finalization : IfSome k.finalization (λ c. c.proposal.round.epoch ≡ e)

and_then_if : {X Y : Type 0} (P : X → Type 0) (Q : Y → Type 0) (f : X → Option Y) (o : Option X) → ((x : X) → P x → IfSome (f x) Q) → IfSome o P → IfSome (option_and_then f o) Q
and_then_if P Q f None turn some = tt
and_then_if P Q f (Some x) turn some = turn x some

map_every : {X Y : Type 0} (Q : Y → Type 0) (f : X → Y) (o : Option X) → ((x : X) → Q (f x)) → IfSome (option_map f o) Q
map_every Q f None turn = tt
map_every Q f (Some x) turn = turn x

side_held : (e : ℕ) (k : Known) (kind : CertificateKind) → HeldOf e k → All (BallotOf e) (known.side_of k kind)
side_held e k kinds.Notarization h = h.notarizes
side_held e k kinds.Nullification h = h.others
side_held e k kinds.Finalization h = h.others

with_held : (e : ℕ) (k : Known) (kind : CertificateKind) (bs : List Ballot) → HeldOf e k → All (BallotOf e) bs → HeldOf e (known.with_side k kind bs)
with_held e k kinds.Notarization bs h b = record { notarizes = b; others = h.others; notarization = h.notarization; finalization = h.finalization }
with_held e k kinds.Nullification bs h b = record { notarizes = h.notarizes; others = b; notarization = h.notarization; finalization = h.finalization }
with_held e k kinds.Finalization bs h b = record { notarizes = h.notarizes; others = b; notarization = h.notarization; finalization = h.finalization }

accused_held : (e : ℕ) (k : Known) (signer : ℕ) (o : Option Evidence) → HeldOf e k → HeldOf e (accused k signer o).known
unfolding accused
accused_held e k signer None h = h
accused_held e k signer (Some proof) h = at (was_given proof k.given)
  where
    at : (b : Bool) → HeldOf e (if b then votes.unheard k
        else record { accepted = false; reports = votes.evidence_activity proof ∷ []; blocks = (signer, votes.evidence_cause proof) ∷ []; known = record k { given = votes.with_given proof k.given } }).known
    at true = h
    at false = record { notarizes = h.notarizes; others = h.others; notarization = h.notarization; finalization = h.finalization }

accepted_held : (e : ℕ) (k : Known) (vote : Vote) → vote_epoch vote ≡ e → HeldOf e k → HeldOf e (votes.with_accepted k vote)
unfolding votes.with_accepted
accepted_held e k vote v h =
    let ballot : Ballot = record { vote = vote; found = None } in
    with_held e k (vote_kind vote) (votes.placed ballot (known.side_of k (vote_kind vote))) h (placed_each (BallotOf e) ballot (known.side_of k (vote_kind vote)) v (side_held e k (vote_kind vote) h))

beside_held : (e : ℕ) (k : Known) (vote : Vote) (o : Option Ballot) → vote_epoch vote ≡ e → HeldOf e k → HeldOf e (heard_beside k vote o).known
unfolding heard_beside
beside_held e k vote None v h = accepted_held e k vote v h
beside_held e k vote (Some old) v h = accused_held e k _ _ h

heard_held : (e : ℕ) (k : Known) (vote : Vote) → vote_epoch vote ≡ e → HeldOf e k → HeldOf e (heard k vote).known
unfolding heard
heard_held e k vote v h = beside_held e k vote _ v h

from_held : (e : ℕ) (k : Known) (sender : ℕ) (vote : Vote) → vote_epoch vote ≡ e → HeldOf e k → HeldOf e (heard_from k sender vote).known
unfolding heard_from
from_held e k sender vote v h = at _
  where
    at : (b : Bool) → HeldOf e (if b then heard k vote else record { accepted = false; reports = []; blocks = (sender, WrongSender) ∷ []; known = k }).known
    at true = heard_held e k vote v h
    at false = h

certificate_held : (e : ℕ) (k : Known) (c : Certificate) → CertificateOf e c → HeldOf e k → HeldOf e (after_certificate k c)
certificate_held e k (certificates.Notarization c) v h =
    record { notarizes = h.notarizes; others = h.others; notarization = either_case (λ n. n.proposal.round.epoch ≡ e) k.notarization (Some c) h.notarization v; finalization = h.finalization }
certificate_held e k (certificates.Nullification c) v h = record { notarizes = h.notarizes; others = h.others; notarization = h.notarization; finalization = h.finalization }
certificate_held e k (certificates.Finalization c) v h =
    record { notarizes = h.notarizes; others = h.others; notarization = h.notarization; finalization = either_case (λ n. n.proposal.round.epoch ≡ e) k.finalization (Some c) h.finalization v }

-- the proposal of the round
of_vote : (e : ℕ) (b : Ballot) → BallotOf e b → IfSome (vote_proposal b.vote) (ProposalOf e)
of_vote e b h = at b.vote h
  where
    at : (v : Vote) → vote_epoch v ≡ e → IfSome (vote_proposal v) (ProposalOf e)
    at (wire.Notarize v) k = k
    at (wire.Nullify v) k = tt
    at (wire.Finalize v) k = k

proposal_held : (e : ℕ) (k : Known) → HeldOf e k → IfSome (proposals.proposal_of k) (ProposalOf e)
unfolding proposals.proposal_of proposals.leader_proposal known.ballot_of
proposal_held e k h =
    either_case (ProposalOf e) (option_map (λ c. c.proposal) k.notarization) _
    (map_case (λ c. c.proposal.round.epoch ≡ e) (ProposalOf e) (λ c. c.proposal) k.notarization (λ c p. p) h.notarization)
    (either_case (ProposalOf e) (option_map (λ c. c.proposal) k.finalization) _
    (map_case (λ c. c.proposal.round.epoch ≡ e) (ProposalOf e) (λ c. c.proposal) k.finalization (λ c p. p) h.finalization)
    (and_then_case (ProposalOf e) _ k.leader (λ leader.
    and_then_if (BallotOf e) (ProposalOf e) (λ (b : Ballot). vote_proposal b.vote) (known.ballot_of k.notarizes leader) (λ b p. of_vote e b p)
    (found_case (BallotOf e) (λ (b : Ballot). vote_signer b.vote == leader) k.notarizes h.notarizes))))

-- ---- what is assembled

WorkOf : ℕ → Work → Type 0
WorkOf e w = All (BallotOf e) w.ballots × IfSome w.certificate (CertificateOf e)

subject_held : (e : ℕ) (made : known.Made) (k : Known) (kind : CertificateKind) → HeldOf e k → IfSome (assembly.subject_of made k kind) (SubjectOf e)
unfolding assembly.subject_of
subject_held e made k kinds.Notarization h = map_case (ProposalOf e) (SubjectOf e) subjects.Notarize (proposals.proposal_of k) (λ p q. q) (proposal_held e k h)
subject_held e made k kinds.Nullification h = tt
subject_held e made k kinds.Finalization h = map_case (ProposalOf e) (SubjectOf e) subjects.Finalize (proposals.proposal_of k) (λ p q. q) (proposal_held e k h)

made_on : (e : ℕ) (s : Subject) (list : List Attestation) → SubjectOf e s → CertificateOf e (certificate_on s list)
made_on e (subjects.Notarize p) list h = h
made_on e (subjects.Nullify r) list h = tt
made_on e (subjects.Finalize p) list h = h

assembled_held : (e : ℕ) (made : known.Made) (scheme : assembly.Scheme) (s : Subject) (valid : List Attestation) → SubjectOf e s → IfSome (assembly.assembled_on made scheme s valid) (CertificateOf e)
unfolding assembly.assembled_on
assembled_held e made scheme s valid h =
    if_case (λ o. IfSome o (CertificateOf e)) (nat_le made.quorum (length valid)) _ None (λ t. map_every (CertificateOf e) (certificate_on s) _ (λ list. made_on e s list h)) (λ t. tt)

checked_held : (e : ℕ) (scheme : assembly.Scheme) (s : Subject) (b : Ballot) → BallotOf e b → BallotOf e (assembly.checked scheme s b)
unfolding assembly.checked
checked_held e scheme s b h = if_case (BallotOf e) (assembly.is_unchecked s b) (record b { found = Some (assembly.verifies_by scheme s b) }) b (λ t. h) (λ t. h)

work_held : (e : ℕ) (made : known.Made) (scheme : assembly.Scheme) (kind : CertificateKind) (s : Subject) (bs : List Ballot) → SubjectOf e s → All (BallotOf e) bs
    → WorkOf e (assembly.work_on made scheme kind s bs)
unfolding assembly.work_on WorkOf
work_held e made scheme kind s bs h b = (
  All-map (BallotOf e) (assembly.checked scheme s) bs (All-weaker (BallotOf e) (λ x. BallotOf e (assembly.checked scheme s x)) (λ x k. checked_held e scheme s x k) bs b),
  assembled_held e made scheme s (assembly.valid_on scheme s bs) h,
)

kind_held : (e : ℕ) (made : known.Made) (scheme : assembly.Scheme) (k : Known) (kind : CertificateKind) → HeldOf e k → IfSome (assembly.work_of made scheme k kind) (WorkOf e)
unfolding assembly.work_of assembly.work_if_any
kind_held e made scheme k kind h =
    let Q = λ (o : Option Work). IfSome o (WorkOf e) in
    if_case Q (made.skipped || proposals.is_held k kind) None _ (λ t. tt) (λ t.
    and_then_if (SubjectOf e) (WorkOf e) _ (assembly.subject_of made k kind) (λ s p.
    let work = assembly.work_on made scheme kind s (known.side_of k kind) in
    if_case Q (nat_le made.quorum (length (filter (assembly.is_candidate s) (known.side_of k kind)))) (assembly.some_work work) None
    (λ u. if_case Q (nat_lt 0 work.processed || is_some work.certificate) (Some work) None (λ v. work_held e made scheme kind s (known.side_of k kind) p (side_held e k kind h)) (λ v. tt)) (λ u. tt))
    (subject_held e made k kind h))

first_held : (e : ℕ) (made : known.Made) (scheme : assembly.Scheme) (k : Known) → HeldOf e k → IfSome (first_work made scheme k) (WorkOf e)
unfolding first_work
first_held e made scheme k h =
    either_case (WorkOf e) (assembly.work_of made scheme k kinds.Notarization) _ (kind_held e made scheme k kinds.Notarization h)
    (either_case (WorkOf e) (assembly.work_of made scheme k kinds.Nullification) _ (kind_held e made scheme k kinds.Nullification h) (kind_held e made scheme k kinds.Finalization h))

after_held : (e : ℕ) (k : Known) (o : Option Work) → IfSome o (WorkOf e) → HeldOf e k → HeldOf e (after_work k o)
unfolding after_work WorkOf
after_held e k None w h = h
after_held e k (Some work) w h = at work.certificate w.1
  where
    at : (o : Option Certificate) → IfSome o (CertificateOf e) → HeldOf e (after_assembly (known.with_side k work.kind work.ballots) o)
    at None c = with_held e k work.kind work.ballots h w.0
    at (Some c) p = certificate_held e (known.with_side k work.kind work.ballots) c p (with_held e k work.kind work.ballots h w.0)

-- ---- a round whose calls are of the epoch

abbrev IsLed : ℕ → rounds.Call → Type 0
IsLed e (rounds.AddNetwork sender vote) = vote_epoch vote ≡ e
IsLed e (rounds.AcceptVote vote) = vote_epoch vote ≡ e
IsLed e (rounds.RecordCertificate c) = certificate_epoch c ≡ e
IsLed e _ = Unit {0}

abbrev RoundLed : ℕ → RoundHistory → Type 0
RoundLed e round = Each (IsLed e) round.calls

named_certificate : (e : ℕ) (c : Certificate) → certificate_epoch c ≡ e → CertificateOf e c
named_certificate e (certificates.Notarization c) h = h
named_certificate e (certificates.Nullification c) h = tt
named_certificate e (certificates.Finalization c) h = h

known_held : (e : ℕ) (made : known.Made) (cs : List rounds.Call) → Each (IsLed e) cs → HeldOf e (rounds.known_after made cs)
unfolding rounds.known_after rounds.after_call
known_held e made [] h = record { notarizes = All-nil (BallotOf e); others = All-nil (BallotOf e); notarization = tt; finalization = tt }
known_held e made (rounds.AddNetwork sender vote ∷ cs) h = from_held e (rounds.known_after made cs) sender vote h.0 (known_held e made cs h.1)
known_held e made (rounds.AcceptVote vote ∷ cs) h = heard_held e (rounds.known_after made cs) vote h.0 (known_held e made cs h.1)
known_held e made (rounds.SetLeader leader ∷ cs) h =
    let old = known_held e made cs h.1 in record { notarizes = old.notarizes; others = old.others; notarization = old.notarization; finalization = old.finalization }
known_held e made (rounds.RecordCertificate c ∷ cs) h = certificate_held e (rounds.known_after made cs) c (named_certificate e c h.0) (known_held e made cs h.1)
known_held e made (rounds.TryConstruct scheme ∷ cs) h =
    let old = known_held e made cs h.1 in after_held e (rounds.known_after made cs) (first_work made scheme (rounds.known_after made cs)) (first_held e made scheme (rounds.known_after made cs) old) old
known_held e made (rounds.TryForward me ∷ cs) h =
    let old = known_held e made cs h.1 in record { notarizes = old.notarizes; others = old.others; notarization = old.notarization; finalization = old.finalization }

forwarded_held : (e : ℕ) (k : Known) (me : ℕ) → HeldOf e k → IfSome (forwarded_to_voter k me) (ProposalOf e)
unfolding forwarded_to_voter
forwarded_held e k me h =
    let Q = λ (o : Option Proposal). IfSome o (ProposalOf e) in
    if_case Q k.forwarded None _ (λ t. tt) (λ t. and_then_case (ProposalOf e) _ k.leader (λ leader. if_case Q (leader == me) None (proposals.proposal_of k) (λ u. tt) (λ u. proposal_held e k h)))

-- ---- where the batcher is, and what it has done so far

record StandingLed (e : ℕ) (s : Standing) : Type 0 where
  pub rounds : (view : ℕ) → IfSome (s.rounds view) (RoundLed e)

record Led (e : ℕ) (d : Doing) : Type 0 where
  pub standing : StandingLed e d.standing
  pub handed : Each (IsProposalOf e) d.handed

either : (e : ℕ) → (b : Bool) (x y : Doing) → Led e x → Led e y → Led e (if b then x else y)
either e true x y p q = p
either e false x y p q = q

led_round : (e : ℕ) → (made : Made) (s : Standing) (view : ℕ) (round : RoundHistory) → StandingLed e s → RoundLed e round → RoundLed e (led made s view round)
unfolding led
led_round e made s view round h r = at (view == s.current || is_in_window made.lookahead.length made.lookahead.views s.current view) s.leader
  where
    at : (b : Bool) (o : Option ℕ) → RoundLed e (if b then option_map_or (λ leader. called (rounds.SetLeader leader) round) o round else round)
    at false o = r
    at true None = r
    at true (Some leader) = (tt, r)

led_for : (e : ℕ) → (made : Made) (s : Standing) (view : ℕ) → StandingLed e s → RoundLed e (round_for made s view)
unfolding round_for new_round
led_for e made s view h = led_round e made s view (unwrap_or (s.rounds view) (new_round made s view)) h (default_case (RoundLed e) (s.rounds view) (new_round made s view) (h.rounds view) tt)

led_with : (e : ℕ) → (made : Made) (s : Standing) → StandingLed e s → StandingLed e (with_leader made s)
unfolding with_leader
led_with e made s h = record { rounds = λ view. at view (view == s.current) }
  where
    at : (view : ℕ) (b : Bool) → IfSome (if b then Some (round_for made s view) else option_map (led made s view) (s.rounds view)) (RoundLed e)
    at view true = led_for e made s view h
    at view false = map_case (RoundLed e) (RoundLed e) (led made s view) (s.rounds view) (λ round r. led_round e made s view round h r) (h.rounds view)

put_round : (e : ℕ) → (view : ℕ) (round : RoundHistory) (d : Doing) → RoundLed e round → Led e d → Led e (with_round view round d)
put_round e view round d r h = record { standing = record { rounds = λ v. at v (v == view) }; handed = h.handed }
  where
    at : (v : ℕ) (b : Bool) → IfSome (if b then Some round else d.standing.rounds v) (RoundLed e)
    at v true = r
    at v false = h.standing.rounds v

hint_led : (e : ℕ) → (made : Made) (reason : TimeoutReason) (d : Doing) → Led e d → Led e (hinting made reason d)
hint_led e made reason d h = record { standing = h.standing; handed = Each-append (IsProposalOf e) d.handed _ h.handed (tt, tt) }

hint_nullify_led : (e : ℕ) → (made : Made) (d : Doing) → Led e d → Led e (hinting_nullify made d)
hint_nullify_led e made d h =
    hint_led e made LeaderNullify (record d { standing = record d.standing { hinted = true } }) (record { standing = record { rounds = h.standing.rounds }; handed = h.handed })

hinted_led : (e : ℕ) → (made : Made) (policy : SkipPolicy) (leader now : ℕ) (d : Doing) → Led e d → Led e (hinted_at_update made policy leader now d)
unfolding hinted_at_update
hinted_led e made skip.Disabled leader now d h = h
hinted_led e made (skip.Enabled timeout budget) leader now d h =
    either e (leader_nullified d.standing) (hinting_nullify made d) (if is_me made leader || is_active made d.standing leader timeout now then d else hinting made Inactivity d)
    (hint_nullify_led e made d h)
    (either e (is_me made leader || is_active made d.standing leader timeout now) d (hinting made Inactivity d) h (hint_led e made Inactivity d h))

forwarding_led : (e : ℕ) → (made : Made) (leader : ℕ) (o : Option Proposal) (d : Doing) → Led e d → Led e (forwarding made leader o d)
unfolding forwarding
forwarding_led e made leader None d h = h
forwarding_led e made leader (Some proposal) d h = record { standing = h.standing; handed = h.handed }

update_led : (e : ℕ) → (made : Made) (current leader finalized : ℕ) (o : Option Proposal) (now : ℕ) (d : Doing) → Led e d → Led e (took_update made current leader finalized o now d)
unfolding took_update
update_led e made current leader finalized o now d h =
    let named : Standing = record d.standing { current = current; leader = Some leader; finalized = finalized; hinted = false } in
    let standing = with_leader made named in
    let x = record d { standing = standing; dirty = current ∷ window_views made standing } in
    forwarding_led e made leader o (hinted_at_update made made.skip leader now x)
    (hinted_led e made made.skip leader now x (record { standing = led_with e made named (record { rounds = h.standing.rounds }); handed = h.handed }))

heard_led : (e : ℕ) → (view : ℕ) (round : RoundHistory) (h : Heard) (d : Doing) → RoundLed e round → Led e d → Led e (with_heard view round h d)
unfolding with_heard
heard_led e view round h d r l =
    let x = put_round e view round d r l in
    record { standing = x.standing; handed = x.handed }

constructed_led : (e : ℕ) → (made : Made) (vote : Vote) (d : Doing) → vote_epoch vote ≡ e → Led e d → Led e (took_constructed made vote d)
unfolding took_constructed
constructed_led e made vote d v h =
    let view = vote_view vote in
    let round = round_for made d.standing view in
    either e (retains_view made d.standing view) (with_heard view (called (rounds.AcceptVote vote) round) (heard (known_in round) vote) d) d
    (heard_led e view (called (rounds.AcceptVote vote) round) (heard (known_in round) vote) d (v, led_for e made d.standing view h.standing) h) h

-- ---- work

forwarded_led : (e : ℕ) → (made : Made) (view : ℕ) (round : RoundHistory) (d : Doing) → RoundLed e round → Led e d → Led e (forwarded made view round d)
unfolding forwarded
forwarded_led e made view round d r h =
    put_round e view (called (rounds.TryForward (number_of made)) round) (record d { handed = d.handed ++ map (λ p. handed.Voter (voter.Proposal p)) (option_to_list (forwarded_to_voter (known_in round) (number_of made))) })
    (tt, r) (record { standing = h.standing; handed = Each-append (IsProposalOf e) d.handed _ h.handed (given (forwarded_to_voter (known_in round) (number_of made)) (forwarded_held e (known_in round) (number_of made) (known_held e round.made round.calls r))) })
  where
    given : (o : Option Proposal) → IfSome o (ProposalOf e) → Each (IsProposalOf e) (map (λ p. handed.Voter (voter.Proposal p)) (option_to_list o))
    given None q = tt
    given (Some p) q = (q, tt)

batch_led : (e : ℕ) → (o : Option Batch) (d : Doing) → Led e d → Led e (with_batch o d)
batch_led e None d h = h
batch_led e (Some batch) d h = record {
  standing = h.standing;
  handed = Each-append (IsProposalOf e) d.handed _ h.handed (Each-map (IsProposalOf e) (λ c. handed.Voter (voter.Verified c)) (option_to_list batch.certificate) (λ c. tt));
}

constructing_led : (e : ℕ) → (made : Made) (view : ℕ) (round : RoundHistory) (d : Doing) → RoundLed e round → Led e d → Led e (constructing made view round d)
unfolding constructing
constructing_led e made view round d r h =
    put_round e view (called (rounds.TryConstruct made.scheme) round) (with_batch (assembly.constructed round.made made.scheme (known_in round)) d) (tt, r) (batch_led e (assembly.constructed round.made made.scheme (known_in round)) d h)

once_led : (e : ℕ) → (made : Made) (view : ℕ) (o : Option RoundHistory) (d : Doing) → IfSome o (RoundLed e) → Led e d → Led e (option_map_or (λ round. constructing made view round d) o d)
once_led e made view None d r h = h
once_led e made view (Some round) d r h = constructing_led e made view round d r h

times_led : (e : ℕ) → (n : ℕ) (made : Made) (view : ℕ) (d : Doing) → Led e d → Led e (constructing_times n made view d)
unfolding constructing_times
times_led e zero made view d h = h
times_led e (suc n) made view d h =
    times_led e n made view (option_map_or (λ round. constructing made view round d) (d.standing.rounds view) d) (once_led e made view (d.standing.rounds view) d (h.standing.rounds view) h)

handing_led : (e : ℕ) → (made : Made) (view : ℕ) (o : Option RoundHistory) (d : Doing) → IfSome o (RoundLed e) → Led e d → Led e (option_map_or (λ round. forwarded made view round d) o d)
handing_led e made view None d r h = h
handing_led e made view (Some round) d r h = forwarded_led e made view round d r h

worked_led : (e : ℕ) → (made : Made) (view : ℕ) (d : Doing) → Led e d → Led e (worked made view d)
unfolding worked
worked_led e made view d h =
    let handing = option_map_or (λ round. forwarded made view round d) (d.standing.rounds view) d in
    let x = handing_led e made view (d.standing.rounds view) d (h.standing.rounds view) h in
    either e (nat_le view d.standing.finalized) d _ h
    (either e (admits_view made d.standing view) (constructing_times 3 made view handing) handing (times_led e 3 made view handing x) x)

all_led : (e : ℕ) → (made : Made) (views : List ℕ) (d : Doing) → Led e d → Led e (worked_all made views d)
unfolding worked_all
all_led e made [] d h = h
all_led e made (view ∷ views) d h = all_led e made views (worked made view d) (worked_led e made view d h)

dropped_led : (e : ℕ) → (made : Made) (d : Doing) → Led e d → Led e (dropped made d)
unfolding dropped
dropped_led e made d h = record { standing = record { rounds = λ view. at view (retains_view made d.standing view) }; handed = h.handed }
  where
    at : (view : ℕ) (b : Bool) → IfSome (if b then d.standing.rounds view else None) (RoundLed e)
    at view true = h.standing.rounds view
    at view false = tt

-- ---- steps

blocked_led : (e member : ℕ) (why : BlockCause) (d : Doing) → Led e d → Led e (and_blocked member why d)
blocked_led e member why d h = record { standing = h.standing; handed = h.handed }

at_vote_led : (e : ℕ) (made : Made) (accepted : Bool) (d : Doing) → Led e d → Led e (hinted_at_vote made accepted d)
unfolding hinted_at_vote
at_vote_led e made accepted d h = either e _ (hinting_nullify made d) d (hint_nullify_led e made d h) h

took_led : (e : ℕ) (made : Made) (sender : ℕ) (vote : Vote) (d : Doing) → vote_epoch vote ≡ e → Led e d → Led e (took_vote made sender vote d)
unfolding took_vote
took_led e made sender vote d v h =
    let view = vote_view vote in
    let round = round_for made d.standing view in
    let x = heard_from (known_in round) sender vote in
    either e (retains_view made d.standing view && admits_view made d.standing view) (hinted_at_vote made x.accepted (with_heard view (called (rounds.AddNetwork sender vote) round) x d)) d
    (at_vote_led e made x.accepted (with_heard view (called (rounds.AddNetwork sender vote) round) x d)
    (heard_led e view (called (rounds.AddNetwork sender vote) round) x d (v, led_for e made d.standing view h.standing) h)) h

seen_led : (e sender now : ℕ) (d : Doing) → Led e d → Led e (record d { standing = seen_now sender now d.standing })
unfolding seen_now
seen_led e sender now d h = (let old = h.standing in record { standing = record { rounds = old.rounds }; handed = h.handed })

vote_led : (e : ℕ) (made : Made) (sender : ℕ) (r : Result Vote DecodeError) (now : ℕ) (d : Doing) → made.epoch ≡ e → Led e d → Led e (heard_vote made sender r now d)
unfolding heard_vote
vote_led e made sender (Err fault) now d same h = blocked_led e sender _ d h
vote_led e made sender (Ok vote) now d same h =
    let seen = record d { standing = seen_now sender now d.standing } in
    if_case (Led e) (vote_epoch vote == made.epoch) (took_vote made sender vote seen) (and_blocked sender _ d)
    (λ t. took_led e made sender vote seen (eqb-true (vote_epoch vote) made.epoch t ∙ same) (seen_led e sender now d h)) (λ t. blocked_led e sender _ d h)

kept_led : (e : ℕ) (made : Made) (c : Certificate) (d : Doing) → certificate_epoch c ≡ e → Led e d → Led e (kept_certificate made c d)
unfolding kept_certificate
kept_led e made c d v h =
    let view = certificate_view c in
    let round = round_for made d.standing view in
    let x = put_round e view (called (rounds.RecordCertificate c) round) d (v, led_for e made d.standing view h.standing) h in
    record { standing = x.standing; handed = Each-append (IsProposalOf e) d.handed _ h.handed (tt, tt) }

certificate_led : (e : ℕ) (made : Made) (sender : ℕ) (c : Certificate) (d : Doing) → certificate_epoch c ≡ e → Led e d → Led e (took_certificate made sender c d)
unfolding took_certificate
certificate_led e made sender c d v h =
    either e _ d _ h (either e _ (kept_certificate made c d) (and_blocked sender _ d) (kept_led e made c d v h) (blocked_led e sender _ d h))

read_led : (e : ℕ) (made : Made) (sender : ℕ) (r : Result Certificate DecodeError) (now : ℕ) (d : Doing) → made.epoch ≡ e → Led e d → Led e (heard_certificate made sender r now d)
unfolding heard_certificate
read_led e made sender (Err fault) now d same h = blocked_led e sender _ d h
read_led e made sender (Ok c) now d same h =
    let seen = record d { standing = seen_now sender now d.standing } in
    if_case (Led e) (certificate_epoch c == made.epoch) (took_certificate made sender c seen) (and_blocked sender _ d)
    (λ t. certificate_led e made sender c seen (eqb-true (certificate_epoch c) made.epoch t ∙ same) (seen_led e sender now d h)) (λ t. blocked_led e sender _ d h)

acted_led : (e : ℕ) (made : Made) (i : BatcherInput) (now : ℕ) (d : Doing) → made.epoch ≡ e → IsMailOf e (record { input = i; now = now }) → Led e d → Led e (acted made i now d)
unfolding acted
acted_led e made (input.Mail (batcher.Update current leader finalized proposal)) now d same own h = update_led e made current leader finalized proposal now d h
acted_led e made (input.Mail (batcher.Constructed vote)) now d same own h = constructed_led e made vote d own h
acted_led e made (input.Vote sender bytes) now d same own h = vote_led e made sender (whole format.vote bytes) now d same h
acted_led e made (input.Certificate sender bytes) now d same own h = read_led e made sender (whole format.certificate bytes) now d same h

step_led : (e : ℕ) (made : Made) (s : Standing) (given : Timed) → made.epoch ≡ e → IsMailOf e given → StandingLed e s → Led e (step made s given)
unfolding step finished
step_led e made s given same own h =
    let d = acted made given.input given.now (begun s) in
    dropped_led e made (worked_all made d.dirty d) (all_led e made d.dirty d (acted_led e made given.input given.now (begun s) same own (record { standing = h; handed = tt })))

standing_led : (e : ℕ) (made : Made) (past : List Timed) → made.epoch ≡ e → Each (IsMailOf e) past → StandingLed e (standing_after made past)
unfolding standing_after at_first
standing_led e made [] same own = record { rounds = λ view. tt }
standing_led e made (given ∷ past) same own = (let x = step_led e made (standing_after made past) given same own.0 (standing_led e made past same own.1) in x.standing)

-- where own votes name the batcher's epoch, so does each proposal that a step hands to the voter
pub proposals_named : (e : ℕ) (made : Made) (past : List Timed) (given : Timed) → made.epoch ≡ e → Each (IsMailOf e) (given ∷ past) → Each (IsProposalOf e) (step_out made past given).handed
unfolding step_out
proposals_named e made past given same own = (let x = step_led e made (standing_after made past) given same own.0 (standing_led e made past same own.1) in x.handed)
