-- A step keeps all founded, and so does every list of steps.
use Rattle.std.proofs.Common.{◌≡◌, ◌≢◌, ℕ, Bool, true, false, List, [], ◌∷◌, All, refl, inl, inr}
use Rattle.std.specs.Prelude.{◌==◌, ◌&&◌, Some, Result, Ok, Err}
use Rattle.std.proofs.lemmas.Bool.{eq-eqb}
use Rattle.std.proofs.lemmas.List.Elements.{All-nil, All-weaker}
use Rattle.simplex_wire.specs.declared.error.DecodeError.{DecodeError}
use Rattle.simplex_wire.specs.declared.certificate.Certificate.{Certificate}
use Rattle.simplex_wire.specs.declared.vote.Vote.{Vote}
use Rattle.simplex_wire.specs.Format.{whole}
use Rattle.simplex_wire.specs.Message as format
use Rattle.simplex_wire.specs.Certified.{is_certified}
use Rattle.simplex_wire.specs.Fields.{certificate_subject, certificate_signatures}
use Rattle.simplex_types.specs.declared.cause.BlockCause.{BlockCause}
use Rattle.simplex_types.specs.declared.cause.BlockCause.TheVariants.{Undecodable, WrongEpoch, InvalidCertificate, WrongSender}
use Rattle.simplex_round.specs.Votes.{vote_signer}
use Rattle.simplex_messages.specs.declared.call.Call.{Call}
use Rattle.simplex_messages.specs.declared.call.Call.TheVariants as call
use Rattle.simplex_messages.specs.declared.batcher.BatcherInput.{BatcherInput}
use Rattle.simplex_messages.specs.declared.batcher.BatcherInput.TheVariants as input
use Rattle.simplex_messages.specs.declared.batcher.Message.TheVariants as batcher
use Rattle.model_steps.specs.Batcher.{Made, Timed, Standing, RoundHistory, Doing, known_in, begun, retains_view, admits_view, at_first, and_blocked, vote_epoch, certificate_epoch, round_for, new_round, led, holds_kind, seen_now, took_vote, took_certificate, heard_vote, heard_certificate, acted, step, standing_after, step_out}
use Rattle.law_member.specs.BatcherVotes.{Brings, Came, takes, Accepted, HoldsOnly, IsOf}
use Rattle.law_member.specs.Reports.{IsFoundedCall}
use Rattle.law_member.specs.Blocks.{Did, IsFoundedBlock}
use Rattle.law_member.specs.Certificates.{IsSchemeOfMembers, IsFoundedMessage, BringsNew}
use Rattle.law_member.proofs.Choices.{if_case, some_at}
use Rattle.law_member.proofs.Ballots.{holds_only}
use Rattle.law_member.proofs.Rounds.{GoodRound, GoodRounds, rounds_more}
use Rattle.law_member.proofs.Hearing.{Blames}
use Rattle.law_member.proofs.Doings.{Sound, IsFoundedIn, is_admitted, is_accepted, blocked_sound, took_vote_sound, took_constructed_sound, took_certificate_sound, took_update_sound}
use Rattle.law_member.proofs.Working.{finished_sound}

both_true : (a b : Bool) → a ≡ true → b ≡ true → a && b ≡ true
both_true a b e f = rw (e, f) refl

-- what the sender of such a packet did, where it is blocked for it
abbrev pub DidByVote : Made → (did : ℕ → BlockCause → Type 0) → ℕ → Result Vote DecodeError → Type 0
DidByVote made did sender decoded =
    ((fault : DecodeError) → decoded ≡ Err fault → did sender Undecodable)
    × ((vote : Vote) → decoded ≡ Ok vote → (vote_epoch vote == made.epoch) ≡ false → did sender WrongEpoch)
    × ((vote : Vote) → decoded ≡ Ok vote → (vote_signer vote == sender) ≡ false → did sender WrongSender)

abbrev pub DidByCertificate : Made → (did : ℕ → BlockCause → Type 0) → ℕ → Result Certificate DecodeError → Type 0
DidByCertificate made did sender decoded =
    ((fault : DecodeError) → decoded ≡ Err fault → did sender Undecodable)
    × ((c : Certificate) → decoded ≡ Ok c → (certificate_epoch c == made.epoch) ≡ false → did sender WrongEpoch)
    × ((c : Certificate) → decoded ≡ Ok c → is_certified (made.scheme.verifies (certificate_subject c)) made.members (certificate_signatures c) ≡ false → did sender InvalidCertificate)

abbrev pub DidBy : Made → (did : ℕ → BlockCause → Type 0) → BatcherInput → Type 0
DidBy made did (input.Vote sender bytes) = DidByVote made did sender (whole format.vote bytes)
DidBy made did (input.Certificate sender bytes) = DidByCertificate made did sender (whole format.certificate bytes)
DidBy made did (input.Mail message) = Unit {0}

module _ (made : Made) (accepted came : Vote → Type 0) (did : ℕ → BlockCause → Type 0) (is_new : Certificate → Type 0) (blames : Blames made.scheme.verifies accepted came did) (is_came : (v : Vote) → accepted v → came v) (standing : Standing) (good : GoodRounds made accepted standing.rounds) where
  abbrev S : Doing → Type 0
  S doing = Sound made accepted came did is_new doing

  begun_sound : S (begun standing)
  begun_sound = record { rounds = good; handed = λ fits. All-nil (IsFoundedMessage made accepted is_new); calls = All-nil (IsFoundedIn accepted came did) }

  seen_sound : (sender now : ℕ) → S (begun (seen_now sender now standing))
  unfolding seen_now
  seen_sound sender now = record { rounds = good; handed = λ fits. All-nil (IsFoundedMessage made accepted is_new); calls = All-nil (IsFoundedIn accepted came did) }

  heard_vote_sound : (sender : ℕ) (decoded : Result Vote DecodeError) (now : ℕ)
      → ((vote : Vote) → decoded ≡ Ok vote → sender ≡ vote_signer vote → (vote_epoch vote == made.epoch) ≡ true
      → is_admitted made standing vote ≡ true → is_accepted made standing vote ≡ true → accepted vote)
      → ((vote : Vote) → decoded ≡ Ok vote → sender ≡ vote_signer vote → came vote)
      → DidByVote made did sender decoded → S (heard_vote made sender decoded now (begun standing))
  unfolding heard_vote round_for led new_round retains_view admits_view seen_now
  heard_vote_sound sender (Err fault) now accepts comes does = blocked_sound made accepted came did is_new sender _ (begun standing) (does.0 fault refl) begun_sound
  heard_vote_sound sender (Ok vote) now accepts comes does =
      let seen = begun (seen_now sender now standing) in
      if_case S (vote_epoch vote == made.epoch) (took_vote made sender vote seen) (and_blocked sender _ (begun standing))
      (λ h. took_vote_sound made accepted came did is_new blames is_came seen (seen_sound sender now) sender vote (λ from. accepts vote refl from h) (comes vote refl) (does.2 vote refl))
      (λ h. blocked_sound made accepted came did is_new sender _ (begun standing) (does.1 vote refl h) begun_sound)

  heard_certificate_sound : (sender : ℕ) (decoded : Result Certificate DecodeError) (now : ℕ)
      → ((certificate : Certificate) → decoded ≡ Ok certificate → holds_kind standing certificate ≡ false → is_new certificate)
      → DidByCertificate made did sender decoded → S (heard_certificate made sender decoded now (begun standing))
  unfolding heard_certificate holds_kind seen_now
  heard_certificate_sound sender (Err fault) now new does = blocked_sound made accepted came did is_new sender _ (begun standing) (does.0 fault refl) begun_sound
  heard_certificate_sound sender (Ok certificate) now new does =
      let seen = begun (seen_now sender now standing) in
      if_case S (certificate_epoch certificate == made.epoch) (took_certificate made sender certificate seen) (and_blocked sender _ (begun standing))
      (λ h. took_certificate_sound made accepted came did is_new sender certificate seen (new certificate refl) (does.2 certificate refl) (seen_sound sender now))
      (λ h. blocked_sound made accepted came did is_new sender _ (begun standing) (does.1 certificate refl h) begun_sound)

  pub acted_sound : (given : BatcherInput) (now : ℕ)
      → ((vote : Vote) → Brings given vote → takes made standing given vote ≡ true → is_accepted made standing vote ≡ true → accepted vote)
      → ((vote : Vote) → Brings given vote → came vote) → ((certificate : Certificate) → BringsNew standing given certificate → is_new certificate)
      → DidBy made did given → S (acted made given now (begun standing))
  unfolding acted
  acted_sound (input.Mail (batcher.Update current leader finalized proposal)) now accepts comes new does =
      took_update_sound made accepted came did is_new current leader finalized proposal now (begun standing) begun_sound
  acted_sound (input.Mail (batcher.Constructed vote)) now accepts comes new does =
      took_constructed_sound made accepted came did is_new blames is_came (begun standing) begun_sound vote (accepts vote refl) (comes vote refl)
  acted_sound (input.Vote sender bytes) now accepts comes new does =
      heard_vote_sound sender (whole format.vote bytes) now
      (λ vote is from epoch admitted. accepts vote (from, is)
      (both_true (vote_epoch vote == made.epoch) (is_admitted made standing vote) epoch admitted))
      (λ vote is from. comes vote (from, is)) does
  acted_sound (input.Certificate sender bytes) now accepts comes new does =
      heard_certificate_sound sender (whole format.certificate bytes) now (λ certificate is none. new certificate (is, none)) does

-- an accepted vote came
pub accepted_came : (made : Made) (past : List Timed) (vote : Vote) → Accepted made past vote → Came past vote
unfolding Accepted Came
accepted_came made [] vote was = absurd was
accepted_came made (given ∷ past) vote (inl now) = inl now.brings
accepted_came made (given ∷ past) vote (inr before) = inr (accepted_came made past vote before)

-- what is founded whole is founded in its reports, and in its blocks
report_founded : (accepted came : Vote → Type 0) (did : ℕ → BlockCause → Type 0) (c : Call) → IsFoundedIn accepted came did c → IsFoundedCall accepted came c
report_founded accepted came did (call.Report activity) is = is
report_founded accepted came did _ is = tt

block_founded : (made : Made) (accepted came : Vote → Type 0) (given : BatcherInput) (c : Call) → IsFoundedIn accepted came (Did made accepted came given) c → IsFoundedBlock made accepted came given c
block_founded made accepted came given (call.Block member cause) is = is
block_founded made accepted came given _ is = tt

-- what a member did that the step blocks
abbrev DidIn : Made → List Timed → Timed → ℕ → BlockCause → Type 0
DidIn made past given = Did made (Accepted made (given ∷ past)) (Came (given ∷ past)) given.input

apart : (a b : ℕ) → (a == b) ≡ false → a ≢ b
apart a b e same = absurd (let yes = eq-eqb a b same in cc)

step_blames : (made : Made) (past : List Timed) (given : Timed) → Blames made.scheme.verifies (Accepted made (given ∷ past)) (Came (given ∷ past)) (DidIn made past given)
step_blames made past given = record {
  conflicting = λ first second kind signed. (first, second, refl, kind, signed);
  both = λ n f signed. (n, f, refl, signed);
  invalid = λ v was bad. (v, was, refl, bad);
}

input_did : (made : Made) (past : List Timed) (given : Timed) (i : BatcherInput) → DidBy made (Did made (Accepted made (given ∷ past)) (Came (given ∷ past)) i) i
input_did made past given (input.Vote sender bytes) = (
  λ fault e. (refl, fault, e),
  λ vote e other. inl (vote, (refl, e), apart (vote_epoch vote) made.epoch other),
  λ vote e other. (vote, (refl, e), apart (vote_signer vote) sender other),
)
input_did made past given (input.Certificate sender bytes) = (
  λ fault e. (refl, fault, e),
  λ c e other. inr (c, (refl, e), apart (certificate_epoch c) made.epoch other),
  λ c e bad. (c, (refl, e), bad),
)
input_did made past given (input.Mail message) = tt

-- where the input of a step behind these leaves it, before it works
pub taken_sound : (made : Made) (past : List Timed) (given : Timed) → GoodRounds made (Accepted made past) (standing_after made past).rounds
    → Sound made (Accepted made (given ∷ past)) (Came (given ∷ past)) (DidIn made past given) (BringsNew (standing_after made past) given.input) (acted made given.input given.now (begun (standing_after made past)))
unfolding Accepted Came
taken_sound made past given good =
    acted_sound made (Accepted made (given ∷ past)) (Came (given ∷ past)) (DidIn made past given) (BringsNew (standing_after made past) given.input)
    (step_blames made past given) (accepted_came made (given ∷ past)) (standing_after made past)
    (rounds_more made (Accepted made past) (Accepted made (given ∷ past)) (standing_after made past).rounds (λ v was. inr was) good)
    given.input given.now (λ vote brings taken accepts. inl (record { brings = brings; is_taken = taken; accepts = accepts })) (λ vote brings. inl brings) (λ certificate new. new) (input_did made past given given.input)

-- the step behind these inputs
pub after_sound : (made : Made) (past : List Timed) (given : Timed) → GoodRounds made (Accepted made past) (standing_after made past).rounds
    → Sound made (Accepted made (given ∷ past)) (Came (given ∷ past)) (DidIn made past given) (BringsNew (standing_after made past) given.input) (step made (standing_after made past) given)
unfolding step
after_sound made past given good =
    finished_sound made (Accepted made (given ∷ past)) (Came (given ∷ past)) (DidIn made past given) (BringsNew (standing_after made past) given.input) (step_blames made past given).invalid
    (acted made given.input given.now (begun (standing_after made past))) (taken_sound made past given good)

pub rounds_good : (made : Made) (past : List Timed) → GoodRounds made (Accepted made past) (standing_after made past).rounds
unfolding standing_after at_first
rounds_good made [] = λ view. tt
rounds_good made (given ∷ past) = (after_sound made past given (rounds_good made past)).rounds

pub step_founded : (made : Made) (past : List Timed) (given : Timed)
    → Sound made (Accepted made (given ∷ past)) (Came (given ∷ past)) (DidIn made past given) (BringsNew (standing_after made past) given.input) (step made (standing_after made past) given)
step_founded made past given = after_sound made past given (rounds_good made past)

-- what the laws say of it
pub handed_founded : (made : Made) (past : List Timed) (given : Timed) → IsSchemeOfMembers made
    → All (IsFoundedMessage made (Accepted made (given ∷ past)) (BringsNew (standing_after made past) given.input)) (step_out made past given).handed
unfolding step_out
handed_founded made past given fits = (step_founded made past given).handed fits

pub calls_founded : (made : Made) (past : List Timed) (given : Timed)
    → All (IsFoundedCall (Accepted made (given ∷ past)) (Came (given ∷ past))) (step_out made past given).calls
unfolding step_out
calls_founded made past given =
    All-weaker (IsFoundedIn (Accepted made (given ∷ past)) (Came (given ∷ past)) (DidIn made past given)) (IsFoundedCall (Accepted made (given ∷ past)) (Came (given ∷ past)))
    (report_founded (Accepted made (given ∷ past)) (Came (given ∷ past)) (DidIn made past given)) (step made (standing_after made past) given).calls (step_founded made past given).calls

pub blocks_founded : (made : Made) (past : List Timed) (given : Timed)
    → All (IsFoundedBlock made (Accepted made (given ∷ past)) (Came (given ∷ past)) given.input) (step_out made past given).calls
unfolding step_out
blocks_founded made past given =
    All-weaker (IsFoundedIn (Accepted made (given ∷ past)) (Came (given ∷ past)) (DidIn made past given)) (IsFoundedBlock made (Accepted made (given ∷ past)) (Came (given ∷ past)) given.input)
    (block_founded made (Accepted made (given ∷ past)) (Came (given ∷ past)) given.input) (step made (standing_after made past) given).calls (step_founded made past given).calls

pub held_accepted : (made : Made) (past : List Timed) (view : ℕ) (round : RoundHistory) → (standing_after made past).rounds view ≡ Some round
    → HoldsOnly (IsOf view (Accepted made past)) (known_in round)
held_accepted made past view round is =
    holds_only made.scheme.verifies (IsOf view (Accepted made past)) (known_in round)
    (some_at (GoodRound made (IsOf view (Accepted made past))) ((standing_after made past).rounds view) round is (rounds_good made past view)).known
