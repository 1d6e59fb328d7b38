-- What a step does with what it takes keeps all founded.
use Rattle.simplex_types.specs.declared.cause.BlockCause.TheVariants.{InvalidCertificate, WrongSender}
use Rattle.simplex_types.specs.declared.cause.BlockCause.{BlockCause}
use Rattle.simplex_messages.specs.Step.{block_call}
use Rattle.std.proofs.Common.{◌≡◌, ℕ, Bool, true, false, if◌then◌else◌, List, [], ◌∷◌, ◌++◌, All, map, refl, inl}
use Rattle.std.specs.Prelude.{◌==◌, ◌||◌, ◌&&◌, not, Option, Some, None}
use Rattle.std.specs.Option.{option_map_or}
use Rattle.std.proofs.lemmas.List.Elements.{All-nil, All-cons, All-push, All-append, All-map, All-weaker}
use Rattle.simplex_values.specs.declared.proposal.Proposal.{Proposal}
use Rattle.simplex_values.specs.declared.policy.SkipPolicy.{SkipPolicy}
use Rattle.simplex_values.specs.declared.policy.SkipPolicy.TheVariants as skip
use Rattle.simplex_values.specs.declared.timeout.TimeoutReason.{TimeoutReason}
use Rattle.simplex_values.specs.declared.timeout.TimeoutReason.TheVariants.{Inactivity, LeaderNullify}
use Rattle.simplex_values.specs.declared.plan.Plan.TheVariants as plan
use Rattle.simplex_values.specs.declared.plan.Recipients.TheVariants as recipients
use Rattle.simplex_wire.specs.declared.certificate.Certificate.{Certificate}
use Rattle.simplex_wire.specs.declared.vote.Vote.{Vote}
use Rattle.simplex_wire.specs.declared.vote.Vote.TheVariants as ballots
use Rattle.simplex_wire.specs.Certified.{is_certified}
use Rattle.simplex_wire.specs.Fields.{certificate_subject, certificate_signatures}
use Rattle.simplex_round.specs.Votes.{vote_signer}
use Rattle.simplex_round.specs.Acceptance as votes
use Rattle.simplex_round.specs.Forwarding.{gives_proposal}
use Rattle.simplex_round.specs.Calls as rounds
use Rattle.simplex_messages.specs.declared.voter.Message.{Message}
use Rattle.simplex_messages.specs.declared.voter.Message.TheVariants as voter
use Rattle.simplex_messages.specs.declared.handed.Handed.TheVariants as handed
use Rattle.simplex_messages.specs.declared.call.Call.{Call}
use Rattle.simplex_messages.specs.declared.call.Call.TheVariants as call
use Rattle.model_steps.specs.Batcher.{Made, Standing, RoundHistory, Doing, known_in, called, round_for, with_round, and_blocked, and_handed, and_marked, vote_view, certificate_view, retains_view, admits_view, has_skipping, leader_nullified, hinting, hinting_nullify, hinted_at_vote, hinted_at_update, is_me, is_active, forwarding, relayed, targets_of, with_heard, took_vote, took_constructed, holds_kind, kept_certificate, took_certificate, with_leader, window_views, took_update}
use Rattle.law_member.specs.BatcherVotes.{IsOf}
use Rattle.law_member.specs.Reports.{IsFounded}
use Rattle.law_member.specs.Certificates.{IsSchemeOfMembers, IsFoundedMessage}
use Rattle.law_member.proofs.Choices.{if_case, map_or_any}
use Rattle.law_member.proofs.Hearing.{Blames, GoodHeard, heard_good, heard_from_good, founded_more, signed_more}
use Rattle.law_member.proofs.Rounds.{GoodRound, GoodRounds, certificate_called, network_called, own_called, round_for_good, put_good, with_leader_good}

-- the call is no report and no block, or it is founded, and who is blocked did what the cause says
abbrev pub IsFoundedIn : (accepted came : Vote → Type 0) → (did : ℕ → BlockCause → Type 0) → Call → Type 0
IsFoundedIn accepted came did (call.Report activity) = IsFounded accepted came activity
IsFoundedIn accepted came did (call.Block member cause) = did member cause
IsFoundedIn accepted came did _ = Unit {0}

pub record Sound (made : Made) (accepted came : Vote → Type 0) (did : ℕ → BlockCause → Type 0) (is_new : Certificate → Type 0) (doing : Doing) : Type 0 where
  pub rounds : GoodRounds made accepted doing.standing.rounds
  pub handed : IsSchemeOfMembers made → All (IsFoundedMessage made accepted is_new) doing.handed
  pub calls : All (IsFoundedIn accepted came did) doing.calls

or_false : (a b : Bool) → (a || b) ≡ false → b ≡ false
or_false true b e = absurd (cc)
or_false false b e = e

-- whether the view of a vote is kept and admitted
abbrev pub is_admitted : Made → Standing → Vote → Bool
is_admitted made standing vote = retains_view made standing (vote_view vote) && admits_view made standing (vote_view vote)

-- whether the round of its view accepts it
abbrev pub is_accepted : Made → Standing → Vote → Bool
is_accepted made standing vote = (votes.heard (known_in (round_for made standing (vote_view vote))) vote).accepted

module _ (made : Made) (accepted came : Vote → Type 0) (did : ℕ → BlockCause → Type 0) (is_new : Certificate → Type 0) where
  abbrev pub S : Doing → Type 0
  S doing = Sound made accepted came did is_new doing

  pub blocked_sound : (member : ℕ) (why : BlockCause) (doing : Doing) → did member why → S doing → S (and_blocked member why doing)
  blocked_sound member why doing does s = record { rounds = s.rounds; handed = s.handed; calls = All-push (IsFoundedIn accepted came did) doing.calls (call.Block member why) s.calls does }

  handed_sound : (message : Message) (doing : Doing) → (IsSchemeOfMembers made → IsFoundedMessage made accepted is_new (handed.Voter message)) → S doing → S (and_handed message doing)
  handed_sound message doing founded s =
      record { rounds = s.rounds; handed = λ fits. All-push (IsFoundedMessage made accepted is_new) doing.handed (handed.Voter message) (s.handed fits) (founded fits); calls = s.calls }

  marked_sound : (is_marked : Bool) (view : ℕ) (doing : Doing) → S doing → S (and_marked is_marked view doing)
  marked_sound is_marked view doing s = record { rounds = s.rounds; handed = s.handed; calls = s.calls }

  pub round_sound : (view : ℕ) (round : RoundHistory) (doing : Doing) → GoodRound made (IsOf view accepted) round → S doing → S (with_round view round doing)
  round_sound view round doing good s = record { rounds = put_good made accepted doing.standing.rounds view round good s.rounds; handed = s.handed; calls = s.calls }

  -- ---- hints
  hinting_sound : (reason : TimeoutReason) (doing : Doing) → S doing → S (hinting made reason doing)
  hinting_sound reason doing s = handed_sound (voter.Timeout (record { epoch = made.epoch; view = doing.standing.current }) reason) doing (λ fits. tt) s

  hinting_nullify_sound : (doing : Doing) → S doing → S (hinting_nullify made doing)
  hinting_nullify_sound doing s =
      hinting_sound LeaderNullify (record doing { standing = record doing.standing { hinted = true } }) (record { rounds = s.rounds; handed = s.handed; calls = s.calls })

  hinted_at_vote_sound : (b : Bool) (doing : Doing) → S doing → S (hinted_at_vote made b doing)
  unfolding hinted_at_vote
  hinted_at_vote_sound b doing s =
      if_case S (b && has_skipping made.skip && not doing.standing.hinted && leader_nullified doing.standing) (hinting_nullify made doing) doing
      (λ h. hinting_nullify_sound doing s) (λ h. s)

  hinted_at_update_sound : (policy : SkipPolicy) (leader now : ℕ) (doing : Doing) → S doing → S (hinted_at_update made policy leader now doing)
  unfolding hinted_at_update
  hinted_at_update_sound skip.Disabled leader now doing s = s
  hinted_at_update_sound (skip.Enabled timeout budget) leader now doing s =
      if_case S (leader_nullified doing.standing) (hinting_nullify made doing)
      (if is_me made leader || is_active made doing.standing leader timeout now then doing else hinting made Inactivity doing)
      (λ h. hinting_nullify_sound doing s)
      (λ h. if_case S (is_me made leader || is_active made doing.standing leader timeout now) doing (hinting made Inactivity doing) (λ k. s) (λ k. hinting_sound Inactivity doing s))

  -- ---- forwarding
  relayed_founded : (proposal : Proposal) (members : List ℕ) → All (IsFoundedIn accepted came did) (relayed proposal members)
  relayed_founded proposal [] = All-nil (IsFoundedIn accepted came did)
  relayed_founded proposal (member ∷ others) =
      All-cons (IsFoundedIn accepted came did) (call.Relay proposal.payload (plan.Forward proposal.round (recipients.Some (member ∷ others)))) [] tt (All-nil (IsFoundedIn accepted came did))

  -- ---- votes
  with_heard_sound : (view : ℕ) (round : RoundHistory) (heard : votes.Heard) (doing : Doing) → GoodRound made (IsOf view accepted) round → All (IsFounded (IsOf view accepted) (IsOf view came)) heard.reports
      → All (λ (b : ℕ × BlockCause). did b.0 b.1) heard.blocks → S doing → S (with_heard view round heard doing)
  unfolding with_heard
  with_heard_sound view round heard doing good reports blocks s =
      let founded = All-weaker (IsFounded (IsOf view accepted) (IsOf view came)) (IsFounded accepted came)
      (founded_more (IsOf view accepted) (IsOf view came) accepted came (λ v was. was.0) (λ v comes. comes.0)) heard.reports reports in
      let reported = All-map (IsFoundedIn accepted came did) call.Report heard.reports founded in
      let blocked = All-map (IsFoundedIn accepted came did) block_call heard.blocks blocks in
      record {
        rounds = put_good made accepted doing.standing.rounds view round good s.rounds;
        handed = s.handed;
        calls = All-append (IsFoundedIn accepted came did) (doing.calls ++ map call.Report heard.reports) (map block_call heard.blocks)
            (All-append (IsFoundedIn accepted came did) doing.calls (map call.Report heard.reports) s.calls reported) blocked;
      }

  module _ (blames : Blames made.scheme.verifies accepted came did) (is_came : (v : Vote) → accepted v → came v) (doing : Doing) (s : S doing) where
    -- of the votes of one view the same holds
    in_view : (view : ℕ) → Blames made.scheme.verifies (IsOf view accepted) (IsOf view came) did
    in_view view = record {
      conflicting = λ a b kind signed. blames.conflicting a b kind (signed_more (IsOf view accepted) (IsOf view came) accepted came a b (λ v was. was.0) (λ v comes. comes.0) signed);
      both = λ n f signed. blames.both n f (signed_more (IsOf view accepted) (IsOf view came) accepted came (ballots.Nullify n) (ballots.Finalize f) (λ v was. was.0) (λ v comes. comes.0) signed);
      invalid = λ v was bad. blames.invalid v was.0 bad;
    }

    from_network : (sender : ℕ) (vote : Vote) → (sender ≡ vote_signer vote → is_accepted made doing.standing vote ≡ true → accepted vote) → (sender ≡ vote_signer vote → came vote)
        → ((vote_signer vote == sender) ≡ false → did sender WrongSender)
        → GoodHeard made.scheme.verifies (IsOf (vote_view vote) accepted) (IsOf (vote_view vote) came) did (votes.heard_from (known_in (round_for made doing.standing (vote_view vote))) sender vote)
    from_network sender vote accepts comes wrong =
        heard_from_good made.scheme.verifies (IsOf (vote_view vote) accepted) (IsOf (vote_view vote) came) did (in_view (vote_view vote)) (λ v was. (is_came v was.0, was.1)) (vote_view vote) (λ v came. came.1)
        (known_in (round_for made doing.standing (vote_view vote))) (round_for_good made accepted doing.standing (vote_view vote) s.rounds).known sender vote
        (λ from h. (accepts from h, refl)) (λ from. (comes from, refl)) wrong

    from_voter : (vote : Vote) → (is_accepted made doing.standing vote ≡ true → accepted vote) → came vote
        → GoodHeard made.scheme.verifies (IsOf (vote_view vote) accepted) (IsOf (vote_view vote) came) did (votes.heard (known_in (round_for made doing.standing (vote_view vote))) vote)
    from_voter vote accepts comes =
        heard_good made.scheme.verifies (IsOf (vote_view vote) accepted) (IsOf (vote_view vote) came) did (in_view (vote_view vote)) (λ v was. (is_came v was.0, was.1)) (vote_view vote) (λ v came. came.1)
        (known_in (round_for made doing.standing (vote_view vote))) (round_for_good made accepted doing.standing (vote_view vote) s.rounds).known vote
        (λ h. (accepts h, refl)) (comes, refl)

    pub took_vote_sound : (sender : ℕ) (vote : Vote)
        → (sender ≡ vote_signer vote → is_admitted made doing.standing vote ≡ true → is_accepted made doing.standing vote ≡ true → accepted vote)
        → (sender ≡ vote_signer vote → came vote) → ((vote_signer vote == sender) ≡ false → did sender WrongSender) → S (took_vote made sender vote doing)
    unfolding took_vote
    took_vote_sound sender vote accepts comes wrong =
        let view = vote_view vote in
        let round = round_for made doing.standing view in
        let heard = votes.heard_from (known_in round) sender vote in
        if_case S (is_admitted made doing.standing vote)
        (hinted_at_vote made heard.accepted (with_heard view (called (rounds.AddNetwork sender vote) round) heard doing)) doing
        (λ h.
        let good = from_network sender vote (λ from. accepts from h) comes wrong in
        hinted_at_vote_sound heard.accepted (with_heard view (called (rounds.AddNetwork sender vote) round) heard doing)
        (with_heard_sound view (called (rounds.AddNetwork sender vote) round) heard doing (network_called made (IsOf view accepted) round sender vote (round_for_good made accepted doing.standing view s.rounds) good.known) good.reports good.blocks s))
        (λ h. s)

    pub took_constructed_sound : (vote : Vote) → (retains_view made doing.standing (vote_view vote) ≡ true → is_accepted made doing.standing vote ≡ true → accepted vote)
        → came vote → S (took_constructed made vote doing)
    unfolding took_constructed
    took_constructed_sound vote accepts comes =
        let view = vote_view vote in
        let round = round_for made doing.standing view in
        let heard = votes.heard (known_in round) vote in
        if_case S (retains_view made doing.standing view) (with_heard view (called (rounds.AcceptVote vote) round) heard doing) doing
        (λ h.
        let good = from_voter vote (accepts h) comes in
        with_heard_sound view (called (rounds.AcceptVote vote) round) heard doing (own_called made (IsOf view accepted) round vote (round_for_good made accepted doing.standing view s.rounds) good.known) good.reports good.blocks s)
        (λ h. s)

  -- ---- certificates
  kept_sound : (certificate : Certificate) (doing : Doing)
      → is_certified (made.scheme.verifies (certificate_subject certificate)) made.members (certificate_signatures certificate) ≡ true
      → is_new certificate → S doing → S (kept_certificate made certificate doing)
  unfolding kept_certificate
  kept_sound certificate doing verifies new s =
      let view = certificate_view certificate in
      let round = round_for made doing.standing view in
      let is_marked = gives_proposal (known_in round) certificate in
      let kept = with_round view (called (rounds.RecordCertificate certificate) round) doing in
      handed_sound (voter.Verified certificate) (and_marked is_marked view kept) (λ fits. record { verifies = verifies; source = inl new })
      (marked_sound is_marked view kept
      (round_sound view (called (rounds.RecordCertificate certificate) round) doing (certificate_called made (IsOf view accepted) round certificate (round_for_good made accepted doing.standing view s.rounds)) s))

  pub took_certificate_sound : (sender : ℕ) (certificate : Certificate) (doing : Doing) → (holds_kind doing.standing certificate ≡ false → is_new certificate)
      → (is_certified (made.scheme.verifies (certificate_subject certificate)) made.members (certificate_signatures certificate) ≡ false → did sender InvalidCertificate)
      → S doing → S (took_certificate made sender certificate doing)
  unfolding took_certificate
  took_certificate_sound sender certificate doing new false_one s =
      let unkept = not (retains_view made doing.standing (certificate_view certificate)) in
      let verifies = is_certified (made.scheme.verifies (certificate_subject certificate)) made.members (certificate_signatures certificate) in
      if_case S (unkept || holds_kind doing.standing certificate) doing (if verifies then kept_certificate made certificate doing else and_blocked sender InvalidCertificate doing)
      (λ h. s)
      (λ h. if_case S verifies (kept_certificate made certificate doing) (and_blocked sender InvalidCertificate doing)
      (λ v. kept_sound certificate doing v (new (or_false unkept (holds_kind doing.standing certificate) h)) s)
      (λ v. blocked_sound sender InvalidCertificate doing (false_one v) s))

  -- ---- updates
  forwarding_sound : (leader : ℕ) (proposal : Option Proposal) (doing : Doing) → S doing → S (forwarding made leader proposal doing)
  unfolding forwarding
  forwarding_sound leader None doing s = s
  forwarding_sound leader (Some proposal) doing s =
      let relays : RoundHistory → List Call = λ round. relayed proposal (targets_of made made.forward leader proposal round) in
      record {
        rounds = s.rounds;
        handed = s.handed;
        calls = All-append (IsFoundedIn accepted came did) doing.calls (option_map_or relays (doing.standing.rounds proposal.round.view) []) s.calls
            (map_or_any (All (IsFoundedIn accepted came did)) relays (doing.standing.rounds proposal.round.view) []
            (λ round. relayed_founded proposal (targets_of made made.forward leader proposal round)) (All-nil (IsFoundedIn accepted came did)));
      }

  pub took_update_sound : (current leader finalized : ℕ) (proposal : Option Proposal) (now : ℕ) (doing : Doing) → S doing → S (took_update made current leader finalized proposal now doing)
  unfolding took_update
  took_update_sound current leader finalized proposal now doing s =
      let entered = record doing.standing { current = current; leader = Some leader; finalized = finalized; hinted = false } in
      let standing = with_leader made entered in
      let begun = record doing { standing = standing; dirty = current ∷ window_views made standing } in
      forwarding_sound leader proposal (hinted_at_update made made.skip leader now begun)
      (hinted_at_update_sound made.skip leader now begun (record { rounds = with_leader_good made accepted entered s.rounds; handed = s.handed; calls = s.calls }))
