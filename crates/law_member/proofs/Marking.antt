-- Which views a step works: that of a vote that is accepted, and the current one of an update.
use Rattle.simplex_types.specs.declared.cause.BlockCause.TheVariants.{WrongSender}
use Rattle.std.proofs.Common.{◌≡◌, ℕ, ◌+◌, ◌<◌, ◌≤◌, Bool, true, false, if◌then◌else◌, List, [], ◌∷◌, ◌++◌, refl, sym, subst, arith, nat_le}
use Rattle.std.specs.Prelude.{◌==◌, ◌&&◌, ◌||◌, not, min, Option, Some, None, Result, Ok, Contains}
use Rattle.std.proofs.lemmas.Bool.{le-leb}
use Rattle.std.proofs.lemmas.Bool.Decides.{Decides-eqb}
use Rattle.std.proofs.lemmas.List.Elements.{Contains-append_left, Contains-push}
use Rattle.simplex_values.specs.declared.proposal.Proposal.{Proposal}
use Rattle.simplex_values.specs.declared.policy.SkipPolicy.{SkipPolicy}
use Rattle.simplex_values.specs.declared.policy.SkipPolicy.TheVariants as skip
use Rattle.simplex_values.specs.declared.timeout.TimeoutReason.{TimeoutReason}
use Rattle.simplex_values.specs.declared.timeout.TimeoutReason.TheVariants.{Inactivity}
use Rattle.simplex_values.specs.Terms.{greatest_view, next_of, admits}
use Rattle.simplex_wire.specs.declared.error.DecodeError.{DecodeError}
use Rattle.simplex_wire.specs.declared.vote.Vote.{Vote}
use Rattle.simplex_wire.specs.Format.{whole}
use Rattle.simplex_wire.specs.Message as format
use Rattle.simplex_round.specs.Votes.{vote_signer}
use Rattle.simplex_round.specs.Known.{Known}
use Rattle.simplex_round.specs.Acceptance.{Heard, heard, heard_from}
use Rattle.simplex_round.specs.Calls as rounds
use Rattle.simplex_messages.specs.declared.batcher.BatcherInput.{BatcherInput}
use Rattle.simplex_messages.specs.declared.batcher.BatcherInput.TheVariants as input
use Rattle.simplex_messages.specs.declared.batcher.Message.TheVariants as batcher
use Rattle.model_steps.specs.Batcher.{Made, Timed, Standing, RoundHistory, Doing, known_in, called, begun, and_blocked, vote_view, vote_epoch, retains_view, admits_view, led, new_round, round_for, has_skipping, leader_nullified, hinting, hinting_nullify, hinted_at_vote, hinted_at_update, is_me, is_active, forwarding, with_leader, window_views, took_update, with_heard, took_vote, took_constructed, seen_now, heard_vote, acted, standing_after}
use Rattle.law_member.specs.BatcherVotes.{Brings, takes, Accepts}
use Rattle.law_member.specs.Quorums.{taken, IsWorked}
use Rattle.law_member.proofs.Choices.{if_case}
use Rattle.law_member.proofs.Certifying.{both}
use Rattle.law_member.proofs.Doings.{is_admitted, is_accepted}

heard_from_signer : (known : Known) (sender : ℕ) (vote : Vote) → sender ≡ vote_signer vote → (heard known vote).accepted ≡ true → (heard_from known sender vote).accepted ≡ true
unfolding heard_from
heard_from_signer known sender vote from accepts =
    if_case (λ (h : Heard). h.accepted ≡ true) (vote_signer vote == sender) (heard known vote)
    (record { accepted = false; reports = []; blocks = (sender, WrongSender) ∷ []; known = known })
    (λ h. accepts) (λ h. absurd (cc (h, (Decides-eqb (vote_signer vote) sender).1 (sym from))))

module _ (made : Made) (vote : Vote) where
  abbrev W : Doing → Type 0
  W doing = IsWorked made doing (vote_view vote)

  hinted_worked : (accepted : Bool) (doing : Doing) → W doing → W (hinted_at_vote made accepted doing)
  unfolding hinted_at_vote admits_view
  hinted_worked accepted doing w =
      if_case W (accepted && has_skipping made.skip && not doing.standing.hinted && leader_nullified doing.standing) (hinting_nullify made doing) doing
      (λ h. record { marked = w.marked; above = w.above; admitted = w.admitted }) (λ h. w)

  module _ (doing : Doing) (above : doing.standing.finalized < vote_view vote) (admitted : admits_view made doing.standing (vote_view vote) ≡ true) (accepts : is_accepted made doing.standing vote ≡ true) where
    heard_worked : (round : RoundHistory) (heard : Heard) → heard.accepted ≡ true → W (with_heard (vote_view vote) round heard doing)
    unfolding with_heard admits_view
    heard_worked round heard accepted = record {
      marked = subst (λ (b : Bool). Contains (if b then doing.dirty ++ vote_view vote ∷ [] else doing.dirty) (vote_view vote)) (sym accepted) (Contains-push doing.dirty (vote_view vote));
      above = above;
      admitted = admitted;
    }

    took_vote_worked : (sender : ℕ) → sender ≡ vote_signer vote → is_admitted made doing.standing vote ≡ true → W (took_vote made sender vote doing)
    unfolding took_vote
    took_vote_worked sender from taken =
        let view = vote_view vote in
        let round = round_for made doing.standing view in
        let heard = heard_from (known_in round) sender vote in
        let accepting = with_heard view (called (rounds.AddNetwork sender vote) round) heard doing in
        if_case W (is_admitted made doing.standing vote) (hinted_at_vote made heard.accepted accepting) doing
        (λ h. hinted_worked heard.accepted accepting
        (heard_worked (called (rounds.AddNetwork sender vote) round) heard (heard_from_signer (known_in round) sender vote from accepts)))
        (λ h. absurd (cc (h, taken)))

    took_constructed_worked : retains_view made doing.standing (vote_view vote) ≡ true → W (took_constructed made vote doing)
    unfolding took_constructed
    took_constructed_worked taken =
        let view = vote_view vote in
        let round = round_for made doing.standing view in
        if_case W (retains_view made doing.standing view) (with_heard view (called (rounds.AcceptVote vote) round) (heard (known_in round) vote) doing) doing
        (λ h. heard_worked (called (rounds.AcceptVote vote) round) (heard (known_in round) vote) accepts)
        (λ h. absurd (cc (h, taken)))

  module _ (standing : Standing) (above : standing.finalized < vote_view vote) (admitted : admits_view made standing (vote_view vote) ≡ true) (accepts : is_accepted made standing vote ≡ true) where
    heard_vote_worked : (sender now : ℕ) (decoded : Result Vote DecodeError) → decoded ≡ Ok vote → sender ≡ vote_signer vote
        → (vote_epoch vote == made.epoch) ≡ true → is_admitted made standing vote ≡ true → W (heard_vote made sender decoded now (begun standing))
    unfolding heard_vote round_for led new_round retains_view admits_view seen_now
    heard_vote_worked sender now decoded is from epoch taken =
        let seen = begun (seen_now sender now standing) in
        subst (λ (r : Result Vote DecodeError). W (heard_vote made sender r now (begun standing))) (sym is)
        (if_case W (vote_epoch vote == made.epoch) (took_vote made sender vote seen) (and_blocked sender _ (begun standing))
        (λ h. took_vote_worked seen above admitted accepts sender from taken)
        (λ h. absurd (cc (h, epoch))))

    acted_worked : (given : BatcherInput) (now : ℕ) → Brings given vote → takes made standing given vote ≡ true → W (acted made given now (begun standing))
    unfolding acted
    acted_worked (input.Mail (batcher.Update current leader finalized proposal)) now brings taken = absurd brings
    acted_worked (input.Mail (batcher.Constructed own)) now brings taken =
        subst (λ (v : Vote). W (took_constructed made v (begun standing))) (sym brings) (took_constructed_worked (begun standing) above admitted accepts taken)
    acted_worked (input.Vote sender bytes) now brings taken =
        let parts = both (vote_epoch vote == made.epoch) (is_admitted made standing vote) taken in
        heard_vote_worked sender now (whole format.vote bytes) brings.1 brings.0 parts.0 parts.1
    acted_worked (input.Certificate sender bytes) now brings taken = absurd brings

pub accepted_worked : (made : Made) (past : List Timed) (given : Timed) (vote : Vote) → Accepts made past given vote → (standing_after made past).finalized < vote_view vote
    → admits_view made (standing_after made past) (vote_view vote) ≡ true → IsWorked made (taken made past given) (vote_view vote)
accepted_worked made past given vote is above admitted =
    acted_worked made vote (standing_after made past) above admitted is.accepts given.input given.now is.brings is.is_taken

-- ---- updates

module _ (made : Made) (view : ℕ) where
  abbrev Works : Doing → Type 0
  Works doing = IsWorked made doing view

  hinting_works : (reason : TimeoutReason) (doing : Doing) → Works doing → Works (hinting made reason doing)
  hinting_works reason doing w = record { marked = w.marked; above = w.above; admitted = w.admitted }

  hinting_nullify_works : (doing : Doing) → Works doing → Works (hinting_nullify made doing)
  unfolding admits_view
  hinting_nullify_works doing w = record { marked = w.marked; above = w.above; admitted = w.admitted }

  hinted_works : (policy : SkipPolicy) (leader now : ℕ) (doing : Doing) → Works doing → Works (hinted_at_update made policy leader now doing)
  unfolding hinted_at_update
  hinted_works skip.Disabled leader now doing w = w
  hinted_works (skip.Enabled timeout budget) leader now doing w =
      if_case Works (leader_nullified doing.standing) (hinting_nullify made doing)
      (if is_me made leader || is_active made doing.standing leader timeout now then doing else hinting made Inactivity doing)
      (λ h. hinting_nullify_works doing w)
      (λ h. if_case Works (is_me made leader || is_active made doing.standing leader timeout now) doing (hinting made Inactivity doing) (λ k. w) (λ k. hinting_works Inactivity doing w))

  forwarding_works : (leader : ℕ) (proposal : Option Proposal) (doing : Doing) → Works doing → Works (forwarding made leader proposal doing)
  unfolding forwarding
  forwarding_works leader None doing w = w
  forwarding_works leader (Some proposal) doing w = record { marked = w.marked; above = w.above; admitted = w.admitted }

-- the current view is admitted
current_admitted : (length views current : ℕ) → current ≤ greatest_view → admits length views current current ≡ true
unfolding admits next_of
current_admitted length views current le =
    let first : nat_le current (min (current + 1) greatest_view) ≡ true = le-leb current (min (current + 1) greatest_view) (omega (arith, le)) in
    rw first refl

took_update_works : (made : Made) (current leader finalized : ℕ) (proposal : Option Proposal) (now : ℕ) (doing : Doing) → finalized < current → current ≤ greatest_view
    → IsWorked made (took_update made current leader finalized proposal now doing) current
unfolding took_update with_leader admits_view
took_update_works made current leader finalized proposal now doing above le =
    let standing = with_leader made (record doing.standing { current = current; leader = Some leader; finalized = finalized; hinted = false }) in
    let marking = record doing { standing = standing; dirty = current ∷ window_views made standing } in
    forwarding_works made current leader proposal (hinted_at_update made made.skip leader now marking)
    (hinted_works made current made.skip leader now marking
    (record { marked = Contains-append_left (current ∷ []) (window_views made standing) current (Contains-push [] current); above = above; admitted = current_admitted made.lookahead.length made.lookahead.views current le }))

pub update_works : (made : Made) (past : List Timed) (given : Timed) (current leader finalized : ℕ) (proposal : Option Proposal)
    → given.input ≡ input.Mail (batcher.Update current leader finalized proposal) → finalized < current → current ≤ greatest_view → IsWorked made (taken made past given) current
unfolding acted
update_works made past given current leader finalized proposal is above le =
    subst (λ (i : BatcherInput). IsWorked made (acted made i given.now (begun (standing_after made past))) current) (sym is)
    (took_update_works made current leader finalized proposal given.now (begun (standing_after made past)) above le)
