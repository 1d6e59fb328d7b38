-- A vote that went out is one of the member's life.
use Rattle.std.proofs.Common.{◌≡◌, ℕ, ◌<◌, ◌^◌, List, [], ◌∷◌, All, Contains, Result, Ok, Err, sym, ap, ◌∙◌, subst, inl, inr, ◌⊎◌}
use Rattle.std.specs.List.{flat_map}
use Rattle.std.proofs.lemmas.List.Elements.{All-contains, All-contains_itself, All-weaker, Contains-append_cases}
use Rattle.simplex_values.specs.declared.plan.Channel.{Channel}
use Rattle.simplex_values.specs.declared.plan.Channel.TheVariants as channels
use Rattle.simplex_values.specs.declared.plan.Recipients.{Recipients}
use Rattle.simplex_values.specs.declared.proposal.Subject.{Subject}
use Rattle.simplex_wire.specs.declared.artifact.Artifact.{Artifact}
use Rattle.simplex_wire.specs.declared.artifact.Artifact.TheVariants as artifacts
use Rattle.simplex_wire.specs.declared.error.DecodeError.{DecodeError}
use Rattle.simplex_wire.specs.declared.vote.Vote.{Vote}
use Rattle.simplex_wire.specs.Fields.{vote_subject}
use Rattle.simplex_wire.specs.Format.{whole}
use Rattle.simplex_wire.specs.Message as format
use Rattle.simplex_messages.specs.declared.call.Call.{Call}
use Rattle.simplex_messages.specs.declared.call.Call.TheVariants as calls
use Rattle.model_steps.specs.Engine.{Did}
use Rattle.law_agreement.specs.World.{Sent}
use Rattle.law_agreement.proofs.ListFacts.{not_in_empty, Contains-here, Contains-there, Contains-cons_cases}
use Rattle.law_member.specs.Evidence.{subjects_of}
use Rattle.law_member.specs.Life as conduct
use Rattle.law_member.specs.Life.{voted, AreSent}
use Rattle.law_member.specs.Wire.{Fits}
use Rattle.law_member.proofs.Reading.{whole_on}
use Rattle.law_run.specs.Fitting.{RecordFits, CallFits}
use Rattle.law_run.specs.Sayings.{Each}
use Rattle.law_run.specs.Voting.{read_vote, vote_on}
use Rattle.law_run.proofs.Speaking.{Each-append}
use Rattle.law_run.proofs.Worlds.{in_flat_map, low_fits}
use Rattle.law_cluster.specs.Lives.{Group, Life, AreLives}
use Rattle.law_cluster.specs.Signatures.{calls_in, calls_of, vote_in}
use Rattle.law_cluster.proofs.Further.{IsLowIn}

-- ---- what is read of bytes that went out

-- the bytes are spelled from a vote on one of these subjects
record IsSpelled (list : List Subject) (bytes : List ℕ) : Type 0 where
  vote : Vote
  spelled : bytes ≡ format.vote.spelling vote
  on : Contains list (vote_subject vote)

module _ (to : Recipients) (bytes : List ℕ) where
  abbrev packet : Call
  packet = calls.Send channels.Vote to bytes

  behind : (c : Call) (rest : List Call) → (c ≡ packet → ⊥) → Contains (c ∷ rest) packet → Contains rest packet
  behind c rest other h = elim (Contains-cons_cases c rest packet h) [ inl here ↦ absurd (other here) | inr there ↦ there ]

  spelled_in : (made : List Call) (list : List Subject) → AreSent made list → Contains made packet → IsSpelled list bytes
  unfolding AreSent
  spelled_in [] list sent h = absurd (not_in_empty packet h)
  spelled_in (calls.Send channels.Vote recipients spelling ∷ rest) list sent h =
      subst (λ (all : List Subject). IsSpelled all bytes) (sym sent.3)
      (elim (Contains-cons_cases (calls.Send channels.Vote recipients spelling) rest packet h) [
        | inl here ↦ let same : spelling ≡ bytes = cc in record { vote = sent.0; spelled = sym same ∙ sent.2; on = Contains-here (vote_subject sent.0) sent.1 }
        | inr there ↦
            let later = spelled_in rest sent.1 sent.4 there in
            record { vote = later.vote; spelled = later.spelled; on = Contains-there (vote_subject sent.0) sent.1 (vote_subject later.vote) later.on }
      ])
  spelled_in (calls.Send channels.Certificate recipients spelling ∷ rest) list sent h = spelled_in rest list sent (behind (calls.Send channels.Certificate recipients spelling) rest (λ e. cc) h)
  spelled_in (calls.Send channels.Resolver recipients spelling ∷ rest) list sent h = spelled_in rest list sent (behind (calls.Send channels.Resolver recipients spelling) rest (λ e. cc) h)
  spelled_in (calls.Append section artifact ∷ rest) list sent h = spelled_in rest list sent (behind (calls.Append section artifact) rest (λ e. cc) h)
  spelled_in (calls.Sync section ∷ rest) list sent h = spelled_in rest list sent (behind (calls.Sync section) rest (λ e. cc) h)
  spelled_in (calls.Prune least ∷ rest) list sent h = spelled_in rest list sent (behind (calls.Prune least) rest (λ e. cc) h)
  spelled_in (calls.Report activity ∷ rest) list sent h = spelled_in rest list sent (behind (calls.Report activity) rest (λ e. cc) h)
  spelled_in (calls.Relay payload plan ∷ rest) list sent h = spelled_in rest list sent (behind (calls.Relay payload plan) rest (λ e. cc) h)
  spelled_in (calls.Block who why ∷ rest) list sent h = spelled_in rest list sent (behind (calls.Block who why) rest (λ e. cc) h)

pub read_is : (r : Result Vote DecodeError) (v : Vote) → Contains (read_vote r) v → r ≡ Ok v
read_is (Ok w) v h = elim (Contains-cons_cases w [] v h) [ inl e ↦ ap Ok e | inr r ↦ absurd (not_in_empty v r) ]
read_is (Err error) v h = absurd (not_in_empty v h)

-- a vote that is read of what went out is on a subject of the life's
pub voted_in : (cs : List Call) (sent : List Sent) (v : Vote) → AreSent cs (subjects_of sent) → All Fits (subjects_of sent) → Contains (flat_map vote_in cs) v → Contains (subjects_of sent) (vote_subject v)
voted_in cs sent v votes fits k = (let call = in_flat_map vote_in cs v k in at call.0 call.1 call.2)
  where
    on : (channel : Channel) (to : Recipients) (bytes : List ℕ) → Contains cs (calls.Send channel to bytes) → Contains (vote_on channel bytes) v → Contains (subjects_of sent) (vote_subject v)
    on channels.Vote to bytes c h =
        let s = spelled_in to bytes cs (subjects_of sent) votes c in
        let fit = All-contains Fits (subjects_of sent) (vote_subject s.vote) fits s.on in
        let read : whole format.vote (format.vote.spelling s.vote) ≡ Ok v = ap (λ (b : List ℕ). whole format.vote b) (sym s.spelled) ∙ read_is (whole format.vote bytes) v h in
        subst (Contains (subjects_of sent)) (sym (whole_on s.vote v fit read)) s.on
    on channels.Certificate to bytes c h = absurd (not_in_empty v h)
    on channels.Resolver to bytes c h = absurd (not_in_empty v h)

    at : (call : Call) → Contains cs call → Contains (vote_in call) v → Contains (subjects_of sent) (vote_subject v)
    at (calls.Send channel to bytes) c h = on channel to bytes c h
    at (calls.Append n a) c h = absurd (not_in_empty v h)
    at (calls.Sync n) c h = absurd (not_in_empty v h)
    at (calls.Prune n) c h = absurd (not_in_empty v h)
    at (calls.Report activity) c h = absurd (not_in_empty v h)
    at (calls.Relay payload plan) c h = absurd (not_in_empty v h)
    at (calls.Block who why) c h = absurd (not_in_empty v h)

-- ---- its values keep to their types

record_fits : (a : Artifact) (s : Subject) → RecordFits a → Contains (conduct.vote_in a) s → Fits s
record_fits (artifacts.Notarize v) s f k = elim (Contains-cons_cases _ [] s k) [ inl e ↦ subst Fits e f | inr r ↦ absurd (not_in_empty s r) ]
record_fits (artifacts.Nullify v) s f k = elim (Contains-cons_cases _ [] s k) [ inl e ↦ subst Fits e f | inr r ↦ absurd (not_in_empty s r) ]
record_fits (artifacts.Finalize v) s f k = elim (Contains-cons_cases _ [] s k) [ inl e ↦ subst Fits e f | inr r ↦ absurd (not_in_empty s r) ]
record_fits (artifacts.Notarization c) s f k = absurd (not_in_empty s k)
record_fits (artifacts.Nullification c) s f k = absurd (not_in_empty s k)
record_fits (artifacts.Finalization c) s f k = absurd (not_in_empty s k)
record_fits (artifacts.Certification r good) s f k = absurd (not_in_empty s k)

calls_fit : (cs : List Call) (s : Subject) → Each CallFits cs → Contains (voted cs) s → Fits s
unfolding voted
calls_fit [] s f k = absurd (not_in_empty s k)
calls_fit (calls.Append n a ∷ rest) s f k = elim (Contains-append_cases (conduct.vote_in a) (voted rest) s k) [ inl here ↦ record_fits a s f.0 here | inr r ↦ calls_fit rest s f.1 r ]
calls_fit (calls.Sync n ∷ rest) s f k = calls_fit rest s f.1 k
calls_fit (calls.Prune n ∷ rest) s f k = calls_fit rest s f.1 k
calls_fit (calls.Send channel to bytes ∷ rest) s f k = calls_fit rest s f.1 k
calls_fit (calls.Report activity ∷ rest) s f k = calls_fit rest s f.1 k
calls_fit (calls.Relay payload plan ∷ rest) s f k = calls_fit rest s f.1 k
calls_fit (calls.Block who why ∷ rest) s f k = calls_fit rest s f.1 k

pub all_fit : (epoch : ℕ) (cs : List Call) (list : List Subject) → epoch < 2 ^ 64 → Each CallFits cs → ((s : Subject) → Contains list s → Contains (voted cs) s ⊎ IsLowIn epoch s) → All Fits list
all_fit epoch cs list fit typed own =
    All-weaker (Contains list) Fits (λ s k. elim (own s k) [
      | inl v ↦ calls_fit cs s typed v
      | inr l ↦ subst Fits (sym l.1) (low_fits epoch l.0 fit l.2 l.3)
    ]) list (All-contains_itself list)

typed_in : (past : List Did) → Each (λ (did : Did). Each CallFits did.out.calls) past → Each CallFits (calls_in past)
unfolding calls_in
typed_in [] h = tt
typed_in (did ∷ past) h = Each-append CallFits (calls_in past) did.out.calls (typed_in past h.1) h.0

pub typed_of : (group : Group) (member : ℕ) (lives : List Life) → AreLives group member lives → Each CallFits (calls_of lives)
unfolding AreLives calls_of
typed_of group member [] h = tt
typed_of group member (l ∷ before) h = (let is = h.0 in Each-append CallFits (calls_of before) (calls_in l.past) (typed_of group member before h.1) (typed_in l.past is.typed))
