-- The rounds of a batcher are good, and stay so.
use Rattle.std.proofs.Common.{◌≡◌, refl, sym, subst, ℕ, Bool, false, if◌then◌else◌}
use Rattle.std.specs.Prelude.{◌==◌, ◌||◌, Option, Some}
use Rattle.std.specs.Option.{IfSome, option_map, option_map_or, unwrap_or}
use Rattle.std.proofs.lemmas.Bool.Decides.{Decides-eqb}
use Rattle.std.proofs.lemmas.List.Elements.{All-nil}
use Rattle.simplex_values.specs.declared.proposal.Subject.{Subject}
use Rattle.simplex_values.specs.Terms.{is_in_window}
use Rattle.simplex_values.specs.Quorum.{quorum_of}
use Rattle.simplex_wire.specs.declared.attestation.Attestation.{Attestation}
use Rattle.simplex_wire.specs.declared.certificate.Certificate.{Certificate}
use Rattle.simplex_wire.specs.declared.certificate.Certificate.TheVariants as certificates
use Rattle.simplex_wire.specs.declared.vote.Vote.{Vote}
use Rattle.simplex_round.specs.Known.{Known}
use Rattle.simplex_round.specs.Acceptance.{heard, heard_from}
use Rattle.simplex_round.specs.Forwarding.{after_certificate}
use Rattle.simplex_round.specs.Calls as rounds
use Rattle.model_steps.specs.Batcher.{Made, Standing, RoundHistory, known_in, called, led, new_round, round_for, with_leader}
use Rattle.law_member.specs.BatcherVotes.{IsOf}
use Rattle.law_member.proofs.Choices.{if_case, default_case, map_case, map_or_any, some_more}
use Rattle.law_member.proofs.Ballots.{GoodBallot, GoodKnown, known_more}

-- a quorum of the members is wanted, and what is known is good
pub record GoodRound (made : Made) (accepted : Vote → Type 0) (round : RoundHistory) : Type 0 where
  pub quorum : round.made.skipped ≡ false → round.made.quorum ≡ quorum_of made.members
  pub known : GoodKnown made.scheme.verifies accepted (known_in round)

-- each holds accepted votes of its view alone
abbrev pub GoodRounds : Made → (Vote → Type 0) → (ℕ → Option RoundHistory) → Type 0
GoodRounds made accepted all = (view : ℕ) → IfSome (all view) (GoodRound made (IsOf view accepted))

pub certificate_good : (verifies : Subject → Attestation → Bool) (accepted : Vote → Type 0) (known : Known) (certificate : Certificate)
    → GoodKnown verifies accepted known → GoodKnown verifies accepted (after_certificate known certificate)
certificate_good verifies accepted known (certificates.Notarization c) good = record { notarizes = good.notarizes; others = good.others }
certificate_good verifies accepted known (certificates.Nullification c) good = record { notarizes = good.notarizes; others = good.others }
certificate_good verifies accepted known (certificates.Finalization c) good = record { notarizes = good.notarizes; others = good.others }

module _ (made : Made) (accepted : Vote → Type 0) where
  -- what each call leaves of a good round
  leader_called : (round : RoundHistory) (leader : ℕ) → GoodRound made accepted round → GoodRound made accepted (called (rounds.SetLeader leader) round)
  unfolding rounds.known_after rounds.after_call
  leader_called round leader good = record { quorum = good.quorum; known = record { notarizes = good.known.notarizes; others = good.known.others } }

  pub forward_called : (round : RoundHistory) (me : ℕ) → GoodRound made accepted round → GoodRound made accepted (called (rounds.TryForward me) round)
  unfolding rounds.known_after rounds.after_call
  forward_called round me good = record { quorum = good.quorum; known = record { notarizes = good.known.notarizes; others = good.known.others } }

  pub certificate_called : (round : RoundHistory) (certificate : Certificate) → GoodRound made accepted round → GoodRound made accepted (called (rounds.RecordCertificate certificate) round)
  unfolding rounds.known_after rounds.after_call
  certificate_called round certificate good = record { quorum = good.quorum; known = certificate_good made.scheme.verifies accepted (known_in round) certificate good.known }

  pub network_called : (round : RoundHistory) (sender : ℕ) (vote : Vote) → GoodRound made accepted round → GoodKnown made.scheme.verifies accepted (heard_from (known_in round) sender vote).known
      → GoodRound made accepted (called (rounds.AddNetwork sender vote) round)
  unfolding rounds.known_after rounds.after_call
  network_called round sender vote good known = record { quorum = good.quorum; known = known }

  pub own_called : (round : RoundHistory) (vote : Vote) → GoodRound made accepted round → GoodKnown made.scheme.verifies accepted (heard (known_in round) vote).known
      → GoodRound made accepted (called (rounds.AcceptVote vote) round)
  unfolding rounds.known_after rounds.after_call
  own_called round vote good known = record { quorum = good.quorum; known = known }

  led_good : (standing : Standing) (view : ℕ) (round : RoundHistory) → GoodRound made accepted round → GoodRound made accepted (led made standing view round)
  unfolding led
  led_good standing view round good =
      if_case (GoodRound made accepted) (view == standing.current || is_in_window made.lookahead.length made.lookahead.views standing.current view)
      (option_map_or (λ (leader : ℕ). called (rounds.SetLeader leader) round) standing.leader round) round
      (λ h. map_or_any (GoodRound made accepted) (λ (leader : ℕ). called (rounds.SetLeader leader) round) standing.leader round (λ leader. leader_called round leader good) good)
      (λ h. good)

  new_good : (standing : Standing) (view : ℕ) → GoodRound made accepted (new_round made standing view)
  unfolding new_round rounds.known_after
  new_good standing view =
      let none = All-nil (GoodBallot made.scheme.verifies accepted) in
      record {
        quorum = λ assembles. rw assembles refl;
        known = record { notarizes = record { each = none; rise = tt }; others = record { each = none; rise = tt } };
      }

module _ (made : Made) (accepted : Vote → Type 0) where
  pub round_for_good : (standing : Standing) (view : ℕ) → GoodRounds made accepted standing.rounds → GoodRound made (IsOf view accepted) (round_for made standing view)
  unfolding round_for
  round_for_good standing view good =
      led_good made (IsOf view accepted) standing view (unwrap_or (standing.rounds view) (new_round made standing view))
      (default_case (GoodRound made (IsOf view accepted)) (standing.rounds view) (new_round made standing view) (good view) (new_good made (IsOf view accepted) standing view))

  pub put_good : (all : ℕ → Option RoundHistory) (view : ℕ) (round : RoundHistory) → GoodRound made (IsOf view accepted) round → GoodRounds made accepted all
      → GoodRounds made accepted (λ v. if v == view then Some round else all v)
  put_good all view round new good v =
      if_case (λ (o : Option RoundHistory). IfSome o (GoodRound made (IsOf v accepted))) (v == view) (Some round) (all v)
      (λ h. subst (λ (n : ℕ). GoodRound made (IsOf n accepted) round) (sym ((Decides-eqb v view).0 h)) new) (λ h. good v)

  pub with_leader_good : (standing : Standing) → GoodRounds made accepted standing.rounds → GoodRounds made accepted (with_leader made standing).rounds
  unfolding with_leader
  with_leader_good standing good view =
      if_case (λ (o : Option RoundHistory). IfSome o (GoodRound made (IsOf view accepted))) (view == standing.current) (Some (round_for made standing view))
      (option_map (led made standing view) (standing.rounds view))
      (λ h. round_for_good standing view good)
      (λ h. map_case (GoodRound made (IsOf view accepted)) (GoodRound made (IsOf view accepted)) (led made standing view) (standing.rounds view)
      (led_good made (IsOf view accepted) standing view) (good view))

-- what is accepted stays so
pub rounds_more : (made : Made) (accepted later : Vote → Type 0) (all : ℕ → Option RoundHistory) → ((v : Vote) → accepted v → later v)
    → GoodRounds made accepted all → GoodRounds made later all
rounds_more made accepted later all more good view =
    some_more (GoodRound made (IsOf view accepted)) (GoodRound made (IsOf view later)) (all view)
    (λ round is. record { quorum = is.quorum; known = known_more made.scheme.verifies (IsOf view accepted) (IsOf view later) (known_in round) (λ v was. (more v was.0, was.1)) is.known })
    (good view)
