-- Each vote that a member without an engine answers with is its own, unless it is an impersonator.
use Rattle.std.proofs.Common.{◌≡◌, ℕ, ◌-◌, ◌^◌, ◌<◌, ◌%◌, ◌==◌, not, false, List, [], ◌∷◌, filter, slice_index, Option, Some, None, IfSome, option_map, option_to_list, refl}
use Rattle.simplex_values.specs.declared.plan.Channel.TheVariants as channels
use Rattle.simplex_values.specs.declared.plan.Recipients.{Recipients}
use Rattle.simplex_values.specs.declared.plan.Recipients.TheVariants as recipients
use Rattle.simplex_values.specs.declared.proposal.Proposal.{Proposal}
use Rattle.simplex_values.specs.declared.proposal.Subject.{Subject}
use Rattle.simplex_values.specs.declared.proposal.Subject.TheVariants as subjects
use Rattle.simplex_wire.specs.declared.attestation.Attestation.{Attestation}
use Rattle.simplex_wire.specs.Message as format
use Rattle.simplex_types.specs.Keyed.{signature_of, keyed_attests}
use Rattle.simplex_transcript.specs.declared.setup.Setup.{Setup}
use Rattle.simplex_transcript.specs.declared.setup.MemberKind.{MemberKind}
use Rattle.simplex_transcript.specs.declared.setup.MemberKind.TheVariants as kinds
use Rattle.model_faults.specs.declared.sent.Sent.{Sent}
use Rattle.model_faults.specs.Conflicter.{conflicter_sends, conflicter_drew}
use Rattle.model_faults.specs.Equivocator.{Made, answered, equivocator_sends, equivocator_drew, equivocates, if_equivocates, others_than, notarize_with, to_members}
use Rattle.model_faults.specs.Heard.{Heard, subject_heard, own_vote, votes_to_all}
use Rattle.model_faults.specs.Heard as mock
use Rattle.model_faults.specs.NullifyOnly.{nullify_only_sends}
use Rattle.model_faults.specs.Nuller.{nuller_sends}
use Rattle.model_faults.specs.Outdated.{outdated_sends}
use Rattle.model_faults.specs.Reconfigurer.{reconfigurer_sends}
use Rattle.model_run.specs.Members.{members_of}
use Rattle.model_run.specs.Mocks.{attests_of, words_for, equivocator_of, heard_by}
use Rattle.law_member.specs.Wire.{Fits}
use Rattle.law_run.specs.Sayings.{Each}
use Rattle.law_run.proofs.Speaking.{Each-append}
use Rattle.law_run.proofs.Good.{IsSized}
use Rattle.law_run.proofs.Signing.{IsMembers, keyed_own}
use Rattle.law_run.specs.EventForging.{is_impersonator}
use Rattle.law_run.proofs.Owned.{IsOwnVote}
use Rattle.law_run.proofs.Subjects.{IsHeardBytes, HasNext, subject_fits, nuller_fits, nullify_only_fits, conflicter_fits, reconfigurer_fits, outdated_fits, answered_fits, equivocator_fits}

-- what is sent is an own vote
abbrev pub IsOwnSend : ℕ → Sent → Type 0
IsOwnSend member s = (s.channel ≡ channels.Vote) × IsOwnVote member s.bytes

made_own : (member : ℕ) (s : Subject) (a : Attestation) → IsMembers member a → Fits s → IsOwnVote member (format.vote.spelling (mock.vote_on s a))
made_own member (subjects.Notarize p) a own f = record { vote = mock.vote_on (subjects.Notarize p) a; spelled = refl; own = own; fits = f }
made_own member (subjects.Nullify r) a own f = record { vote = mock.vote_on (subjects.Nullify r) a; spelled = refl; own = own; fits = f }
made_own member (subjects.Finalize p) a own f = record { vote = mock.vote_on (subjects.Finalize p) a; spelled = refl; own = own; fits = f }

module _ (setup : Setup) (member : ℕ) (below : member < members_of setup) (sized : IsSized setup) where
  abbrev own_attestation : Subject → Attestation
  own_attestation s = record { signer = member; signature = signature_of setup.key_base member s }

  attested : (s : Subject) → IsMembers member (own_attestation s)
  unfolding keyed_attests
  attested s = keyed_own setup.key_base member (members_of setup) s (own_attestation s) below sized.few refl

  to_all_own : (list : List Subject) → Each Fits list → Each (IsOwnSend member) (votes_to_all (attests_of setup member) list)
  unfolding votes_to_all own_vote keyed_attests
  to_all_own [] f = tt
  to_all_own (s ∷ list) f = ((refl, made_own member s (own_attestation s) (attested s) f.0), to_all_own list f.1)

  -- ---- the equivocator

  own_to : (to : Recipients) (s : Subject) → Fits s → Each (IsOwnSend member) (option_to_list (option_map (to_members to) (own_vote (attests_of setup member) s)))
  unfolding own_vote keyed_attests
  own_to to s f = ((refl, made_own member s (own_attestation s) (attested s) f), tt)

  equivocates_own : (parent : Proposal) (word first second : ℕ) → setup.epoch < 2 ^ 64 → HasNext parent → Each (IsOwnSend member) (equivocates (equivocator_of setup member) member parent word first second)
  unfolding equivocates
  equivocates_own parent word first second epoch next =
      let made = equivocator_of setup member in
      let others = others_than made.members member in
      let victim = slice_index others (word % (made.members - 1)) in
      let rest = recipients.Some (filter (λ m. not (m == victim)) others) in
      Each-append (IsOwnSend member) (option_to_list (option_map (to_members (recipients.One victim)) (notarize_with made parent first)))
      (option_to_list (option_map (to_members rest) (notarize_with made parent second)))
      (own_to (recipients.One victim) _ (equivocator_fits made parent first epoch next)) (own_to rest _ (equivocator_fits made parent second epoch next))

  equivocator_own : (past : List Heard) (now : Heard) → setup.epoch < 2 ^ 64 → IsHeardBytes now → Each (IsOwnSend member) (equivocator_sends (equivocator_of setup member) past now)
  unfolding equivocator_sends
  equivocator_own past now epoch b = at (answered made past now) (answered_fits made past now b)
    where
      made : Made
      made = equivocator_of setup member

      at : (o : Option Proposal) → IfSome o HasNext → Each (IsOwnSend member) (if_equivocates made (Some member) (equivocator_drew made past) o)
      at None h = tt
      at (Some parent) h = equivocates_own parent _ _ _ epoch h

  -- ---- every kind

  pub mock_own : (kind : MemberKind) (past : List Heard) (now : Heard) → setup.epoch < 2 ^ 64 → is_impersonator kind ≡ false → Each IsHeardBytes past → IsHeardBytes now
      → Each (IsOwnSend member) (heard_by setup member kind past now)
  unfolding heard_by conflicter_sends nuller_sends nullify_only_sends outdated_sends reconfigurer_sends
  mock_own kinds.Conflicter past now epoch none b c = to_all_own _ (conflicter_fits (words_for setup member) (conflicter_drew past) (subject_heard now) (subject_fits now c))
  mock_own kinds.Equivocator past now epoch none b c = equivocator_own past now epoch c
  mock_own kinds.Impersonator past now epoch none b c = cc
  mock_own kinds.Nuller past now epoch none b c = to_all_own _ (nuller_fits (subject_heard now) (subject_fits now c))
  mock_own kinds.NullifyOnly past now epoch none b c = to_all_own _ (nullify_only_fits (subject_heard now) (subject_fits now c))
  mock_own (kinds.Outdated delta) past now epoch none b c = to_all_own _ (outdated_fits delta (now ∷ past) (subject_heard now) (c, b))
  mock_own kinds.Reconfigurer past now epoch none b c = to_all_own _ (reconfigurer_fits (subject_heard now) (subject_fits now c))
  mock_own kinds.Honest past now epoch none b c = tt
  mock_own kinds.Silent past now epoch none b c = tt
  mock_own kinds.Corrupt past now epoch none b c = tt
  mock_own kinds.Unrecovering past now epoch none b c = tt
  mock_own kinds.Twin past now epoch none b c = tt
