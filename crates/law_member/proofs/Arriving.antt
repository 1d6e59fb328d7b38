-- Where channels are authentic, a vote under a member's name is on a subject that the member sent.
use Rattle.std.proofs.Common.{◌≡◌, ℕ, List, [], ◌∷◌, Ok, All, Contains, sym, ap, ◌∙◌, subst, inl, inr}
use Rattle.std.proofs.lemmas.List.Elements.{All-contains, All-head, All-tail}
use Rattle.simplex_values.specs.declared.plan.Channel.TheVariants as channels
use Rattle.simplex_values.specs.declared.plan.Recipients.{Recipients}
use Rattle.simplex_values.specs.declared.proposal.Subject.{Subject}
use Rattle.simplex_wire.specs.declared.vote.Vote.{Vote}
use Rattle.simplex_wire.specs.Fields.{vote_subject}
use Rattle.simplex_wire.specs.Format.{whole}
use Rattle.simplex_wire.specs.Message as format
use Rattle.simplex_round.specs.Votes.{vote_signer}
use Rattle.simplex_messages.specs.declared.batcher.BatcherInput.{BatcherInput}
use Rattle.simplex_messages.specs.declared.batcher.BatcherInput.TheVariants as input
use Rattle.simplex_messages.specs.declared.batcher.Message.TheVariants as batcher
use Rattle.simplex_messages.specs.declared.call.Call.{Call}
use Rattle.simplex_messages.specs.declared.call.Call.TheVariants as calls
use Rattle.simplex_messages.specs.declared.handed.Handed.{Handed}
use Rattle.simplex_messages.specs.declared.handed.Handed.TheVariants as handed
use Rattle.model_steps.specs.Batcher.{Timed}
use Rattle.law_member.specs.BatcherVotes.{Brings, Came}
use Rattle.law_agreement.specs.World.{Sent}
use Rattle.law_agreement.proofs.ListFacts.{not_in_empty, Contains-here, Contains-there, Contains-cons_cases}
use Rattle.law_member.specs.Life.{AreSent, IsVoteSent, AreVotesSent}
use Rattle.law_member.specs.Evidence.{subjects_of, IsAuthentic}
use Rattle.law_member.specs.Wire.{Fits, WentOut, IsItsOwn, AreItsOwn}
use Rattle.law_member.proofs.Reading.{whole_on}

-- the bytes are spelled from a vote on one of these subjects
record IsSpelled (subjects : List Subject) (bytes : List ℕ) : Type 0 where
  vote : Vote
  spelled : bytes ≡ format.vote.spelling vote
  on : Contains subjects (vote_subject vote)

module _ (to : Recipients) (bytes : List ℕ) where
  abbrev packet : Call
  packet = calls.Send channels.Vote to bytes

  behind : (c : Call) (rest : List Call) → (c ≡ packet → ⊥) → Contains (c ∷ rest) packet → Contains rest packet
  behind c rest other h = elim (Contains-cons_cases c rest packet h) [ inl here ↦ absurd (other here) | inr there ↦ there ]

  spelled_in : (made : List Call) (subjects : List Subject) → AreSent made subjects → Contains made packet → IsSpelled subjects bytes
  unfolding AreSent
  spelled_in [] subjects sent h = absurd (not_in_empty packet h)
  spelled_in (calls.Send channels.Vote recipients spelling ∷ rest) subjects sent h =
      subst (λ (all : List Subject). IsSpelled all bytes) (sym sent.3)
      (elim (Contains-cons_cases (calls.Send channels.Vote recipients spelling) rest packet h) [
        | inl here ↦ let same : spelling ≡ bytes = cc in record { vote = sent.0; spelled = sym same ∙ sent.2; on = Contains-here (vote_subject sent.0) sent.1 }
        | inr there ↦
            let later = spelled_in rest sent.1 sent.4 there in
            record { vote = later.vote; spelled = later.spelled; on = Contains-there (vote_subject sent.0) sent.1 (vote_subject later.vote) later.on }
      ])
  spelled_in (calls.Send channels.Certificate recipients spelling ∷ rest) subjects sent h =
      spelled_in rest subjects sent (behind (calls.Send channels.Certificate recipients spelling) rest (λ e. cc) h)
  spelled_in (calls.Send channels.Resolver recipients spelling ∷ rest) subjects sent h =
      spelled_in rest subjects sent (behind (calls.Send channels.Resolver recipients spelling) rest (λ e. cc) h)
  spelled_in (calls.Append section artifact ∷ rest) subjects sent h = spelled_in rest subjects sent (behind (calls.Append section artifact) rest (λ e. cc) h)
  spelled_in (calls.Sync section ∷ rest) subjects sent h = spelled_in rest subjects sent (behind (calls.Sync section) rest (λ e. cc) h)
  spelled_in (calls.Prune least ∷ rest) subjects sent h = spelled_in rest subjects sent (behind (calls.Prune least) rest (λ e. cc) h)
  spelled_in (calls.Report activity ∷ rest) subjects sent h = spelled_in rest subjects sent (behind (calls.Report activity) rest (λ e. cc) h)
  spelled_in (calls.Relay payload plan ∷ rest) subjects sent h = spelled_in rest subjects sent (behind (calls.Relay payload plan) rest (λ e. cc) h)
  spelled_in (calls.Block who why ∷ rest) subjects sent h = spelled_in rest subjects sent (behind (calls.Block who why) rest (λ e. cc) h)

handed_on : (sent : List Sent) (given : List Handed) (vote : Vote) → AreVotesSent sent given → Contains given (handed.Batcher (batcher.Constructed vote))
    → Contains (subjects_of sent) (vote_subject vote)
handed_on sent [] vote own h = absurd (not_in_empty (handed.Batcher (batcher.Constructed vote)) h)
handed_on sent (one ∷ rest) vote own h =
    elim (Contains-cons_cases one rest (handed.Batcher (batcher.Constructed vote)) h) [
      | inl here ↦ subst (IsVoteSent sent) here own.0
      | inr there ↦ handed_on sent rest vote own.1 there
    ]

module _ (member : ℕ) (made : List Call) (given : List Handed) (sent : List Sent) (fits : All Fits (subjects_of sent)) (packets : AreSent made (subjects_of sent)) (mail : AreVotesSent sent given) where
  brought : (one : BatcherInput) (vote : Vote) → IsItsOwn member made given one → Brings one vote → vote_signer vote ≡ member → Contains (subjects_of sent) (vote_subject vote)
  brought (input.Vote sender bytes) vote own brings is =
      let out : WentOut made bytes = own (brings.0 ∙ is) in
      let from : IsSpelled (subjects_of sent) bytes = spelled_in out.0 bytes made (subjects_of sent) packets out.1 in
      let fit : Fits (vote_subject from.vote) = All-contains Fits (subjects_of sent) (vote_subject from.vote) fits from.on in
      let read : whole format.vote (format.vote.spelling from.vote) ≡ Ok vote = ap (λ (b : List ℕ). whole format.vote b) (sym from.spelled) ∙ brings.1 in
      subst (λ (s : Subject). Contains (subjects_of sent) s) (sym (whole_on from.vote vote fit read)) from.on
  brought (input.Mail (batcher.Constructed one)) vote own brings is =
      subst (λ (v : Vote). Contains (subjects_of sent) (vote_subject v)) brings (handed_on sent given one mail (own (ap vote_signer brings ∙ is)))
  brought (input.Mail (batcher.Update current leader finalized proposal)) vote own brings is = absurd brings
  brought (input.Certificate sender bytes) vote own brings is = absurd brings

  pub authentic : (inputs : List Timed) → AreItsOwn member made given inputs → IsAuthentic member inputs sent
  unfolding Came
  authentic [] own vote came is = absurd came
  authentic (one ∷ before) own vote came is =
      elim came [
        | inl now ↦ brought one.input vote (All-head (λ (timed : Timed). IsItsOwn member made given timed.input) one before own) now is
        | inr earlier ↦ authentic before (All-tail (λ (timed : Timed). IsItsOwn member made given timed.input) one before own) vote earlier is
      ]
