-- Each word forbids something that all others let pass.
use Rattle.std.proofs.Common.{◌≡◌, ℕ, zero, suc, ◌^◌, ◌<◌, ◌&&◌, ◌⊎◌, nat_lt, nat_le, Bool, true, false, List, [], ◌∷◌, ◌++◌, map, All, Contains, refl, sym, ap, ◌∙◌, subst, inl, inr, arith, Some, None, Ok}
use Rattle.std.specs.List.{flat_map}
use Rattle.std.proofs.lemmas.List.Elements.{All-nil, All-cons, All-head, All-contains}
use Rattle.std.proofs.lemmas.List.Kept.{AllPairs-cons}
use Rattle.std.proofs.lemmas.Slice.Eq.{bytes_eq-Decides}
use Rattle.simplex_values.specs.Quorum.{quorum_of}
use Rattle.simplex_values.specs.declared.proposal.Proposal.{Proposal}
use Rattle.simplex_values.specs.declared.proposal.Subject.{Subject}
use Rattle.simplex_values.specs.declared.proposal.Subject.TheVariants as subjects
use Rattle.simplex_values.specs.declared.plan.Recipients.{Recipients}
use Rattle.simplex_values.specs.declared.plan.Channel.TheVariants as channels
use Rattle.simplex_values.specs.declared.round.Round.{Round}
use Rattle.simplex_wire.specs.declared.attestation.Attestation.{Attestation}
use Rattle.simplex_wire.specs.declared.certificate.Certificate.{Certificate}
use Rattle.simplex_wire.specs.declared.certificate.Certificate.TheVariants as certificates
use Rattle.simplex_wire.specs.declared.vote.Vote.{Vote}
use Rattle.simplex_wire.specs.declared.vote.Vote.TheVariants as votes
use Rattle.simplex_wire.specs.Certified.{is_certified}
use Rattle.simplex_wire.specs.Fields.{vote_subject, vote_attestation, certificate_subject, subject_round}
use Rattle.simplex_wire.specs.Fits.{FitsProposal, FitsVote}
use Rattle.simplex_wire.specs.Message as format
use Rattle.simplex_wire.specs.Signatures.{rises_from}
use Rattle.simplex_wire.proofs.Formats.{whole_again}
use Rattle.simplex_wire.proofs.Messages.{vote_is}
use Rattle.simplex_types.specs.Keyed.{signature_of, keyed_verifies, keyed_attests}
use Rattle.simplex_messages.specs.declared.call.Call.{Call}
use Rattle.simplex_messages.specs.declared.call.Call.TheVariants as calls
use Rattle.simplex_messages.specs.Step.{blocked_by_calls}
use Rattle.simplex_types.specs.declared.cause.BlockCause.TheVariants.{ConflictingVotes}
use Rattle.simplex_messages.specs.declared.step.Outcome.{Outcome}
use Rattle.simplex_messages.specs.declared.step.Outcome.TheVariants as outcomes
use Rattle.simplex_transcript.specs.declared.node.Node.{Node}
use Rattle.simplex_journal.specs.Contents as journal
use Rattle.model_run.specs.Setting.{at_epoch_genesis}
use Rattle.model_run.specs.Samples.{alone, at}
use Rattle.model_run.specs.Life.{Noted, life_in, sections_in}
use Rattle.model_run.specs.Entries.{node_of, entry_of, made_of, noted_packets}
use Rattle.law_agreement.specs.Conflict.{Conflict}
use Rattle.law_agreement.specs.World as agreement
use Rattle.law_agreement.specs.World.{Sent, MayStand, MayFollow}
use Rattle.law_agreement.proofs.SmallWorlds.{pairs_none}
use Rattle.law_agreement.proofs.ListFacts.{not_in_empty, Contains-here, Contains-cons_cases}
use Rattle.law_member.specs.Life.{voted, statement_of, taken}
use Rattle.law_member.specs.Storing.{IsStored, IsRepeated, record_of_vote, IsOwn}
use Rattle.law_member.specs.Evidence.{blames, BlameNot, subjects_of, AreInOrder}
use Rattle.law_run.specs.Faulty.{faulty_of}
use Rattle.law_run.specs.Histories.{IsRun, IsHeld, AreStored, calls_of, floors_of}
use Rattle.law_run.specs.Ruled.{AreByRule}
use Rattle.law_run.specs.Sayings.{Each}
use Rattle.simplex_wire.specs.declared.artifact.Artifact.TheVariants as artifacts
use Rattle.simplex_wire.specs.declared.vote.Nullify.{Nullify}
use Rattle.simplex_values.specs.declared.plan.Recipients.TheVariants as recipients
use Rattle.simplex_types.specs.declared.activity.Activity.TheVariants as activities
use Rattle.law_run.specs.Backed.{of_call, of_packet, IsVerifying, IsBackedIn, AreBacked, StandsIn}
use Rattle.law_run.specs.Blame.{AreBlameless, bars, BarNot, NoneBarred}
use Rattle.law_run.specs.Founded.{IsOn}
use Rattle.law_run.specs.Genuine.{floor_in, said_in, AreGenuine}
use Rattle.law_run.specs.Late.{own_finalize, its_notarization, hasty_votes, hasty, late}
use Rattle.law_run.specs.MostlyHonest.{IsMostlyHonest}
use Rattle.law_run.specs.Safe.{Stands, AgreeAll, AllName, AreFounded}
use Rattle.law_run.specs.BackingSamples.{signed, near, far, bytes_of, block_at, block, notarize_of, own_notarize, own_nullify, notarized, nullified, bare_nullification, packet_of, send, apart, its, sample, with_silent, noise, after_tick, after_noise}
use Rattle.law_run.specs.Voting.{read_vote, vote_in, sent_votes, HasSigned}
use Rattle.law_run.specs.WellSent.{Came, AreWellSent, EachWellSent, AllWellSent}
use Rattle.law_run.specs.Words.{Word, Backed, Genuine, Named, Founded, Stored, Ruled, Ordered, Blameless, Unbarred, Says, AllBut}
use Rattle.law_run.proofs.Good.{AllBytes, to_bytes, signature_raw}
use Rattle.model_run.specs.Members.{rules_of}
use Rattle.law_run.proofs.Further.{same_node}
use Rattle.law_run.proofs.Signing.{plain_attests}
use Rattle.simplex_transcript.specs.declared.event.Event.TheVariants as events
use Rattle.model_run.specs.Life as life
use Rattle.model_run.specs.Forged.{unless_forged, first_forged, is_forged, signed_in}

-- ---- the one member is honest, and its certificates verify

honest : ¬ (Contains (faulty_of alone) 0)
honest k = not_in_empty 0 k

self : (s : Subject) → keyed_verifies 1 1 s (signed s) ≡ true
unfolding keyed_verifies
self s = (bytes_eq-Decides (signature_of 1 0 s) (signature_of 1 0 s)).1 refl

certified : (s : Subject) → is_certified (keyed_verifies 1 1 s) 1 (signed s ∷ []) ≡ true
unfolding is_certified
certified s = subst (λ (b : Bool). (nat_le (quorum_of 1) 1 && rises_from 0 (signed s ∷ []) && ((nat_lt 0 1 && b) && true)) ≡ true) (sym (self s)) refl

-- ---- its votes are read back

all_bytes : (n byte : ℕ) → byte < 256 → AllBytes (bytes_of n byte)
all_bytes zero byte h = tt
all_bytes (suc n) byte h = (h, all_bytes n byte h)

nullify_fits : (epoch view : ℕ) → epoch < 2 ^ 64 → view < 2 ^ 64 → FitsVote (votes.Nullify (own_nullify (record { epoch = epoch; view = view })))
nullify_fits epoch view e v = ((e, v), (omega arith, signature_raw 1 0 (subjects.Nullify (record { epoch = epoch; view = view }))))

block_fits : (view byte : ℕ) → view < 2 ^ 64 → byte < 256 → FitsProposal (block_at view byte)
block_fits view byte v h = ((omega arith, v), (omega arith, record { len = refl; each = to_bytes (bytes_of 32 byte) (all_bytes 32 byte h) }))

notarize_fits : (view byte : ℕ) → view < 2 ^ 64 → byte < 256 → FitsVote (votes.Notarize (notarize_of (block_at view byte)))
notarize_fits view byte v h = (block_fits view byte v h, (omega arith, signature_raw 1 0 (subjects.Notarize (block_at view byte))))

-- packets of these votes are read as them
read_out : (out : List Vote) → Each FitsVote out → flat_map (vote_in 0) (map packet_of out) ≡ out
read_out [] fits = refl
read_out (v ∷ out) fits =
    subst (λ r. read_vote r ++ flat_map (vote_in 0) (map packet_of out) ≡ v ∷ out) (sym (whole_again format.vote FitsVote vote_is v fits.0)) (ap (λ vs. v ∷ vs) (read_out out fits.1))

-- all that it sent, where nothing went out before
sent_apart : (xs : List Certificate) (out : List Vote) (cs : List Call) (before : List Noted) → sent_votes before 0 ≡ [] → Each FitsVote out → sent_votes (apart xs out cs ∷ before) 0 ≡ out
unfolding sent_votes
sent_apart xs out cs before e fits = subst (λ old. old ++ flat_map (vote_in 0) (map packet_of out) ≡ out) (sym e) (read_out out fits)

nothing_sent : sent_votes [] 0 ≡ []
unfolding sent_votes
nothing_sent = refl

its_unsent : (outcome : Outcome) (cs : List Call) → sent_votes (its outcome cs ∷ []) 0 ≡ []
unfolding sent_votes
its_unsent outcome cs = refl

-- so each vote that went out is among them
read_sent : (noted : List Noted) (out : List Vote) (v : Vote) → sent_votes noted 0 ≡ out → Contains out v → Contains (sent_votes noted 0) v
read_sent noted out v e k = subst (λ vs. Contains vs v) (sym e) k

-- ---- the order of its votes

-- what it knew at a vote, what the vote needs by itself, and what one before it asks
abbrev Knew : List Noted → Sent → Type 0
Knew noted s = All (Came noted (node_of 0)) s.known

abbrev Alone : Sent → Type 0
Alone s = MayStand 1 s.subject s.known

abbrev Behind : Sent → Sent → Type 0
Behind s t = MayFollow 1 s.subject t.subject t.known

zero_is : (member : ℕ) → member < 1 → 0 ≡ member
zero_is member h = omega (arith, h)

of_all : (n : Noted) → AreWellSent alone (n ∷ []) 0 → AllWellSent alone (n ∷ [])
unfolding AllWellSent
of_all n w = ((λ member below good. subst (AreWellSent alone (n ∷ [])) (zero_is member below) w), tt)

no_vote : (n : Noted) → sent_votes (n ∷ []) 0 ≡ [] → AllWellSent alone (n ∷ [])
no_vote n e =
    of_all n (record { votes = []; same = ap (map vote_subject) (sym e); came = All-nil (Knew (n ∷ [])); alone = All-nil Alone; order = pairs_none Behind })

abbrev knowing_nothing : Subject → Sent
knowing_nothing s = record { subject = s; known = [] }

one_vote : (n : Noted) (v : Vote) → sent_votes (n ∷ []) 0 ≡ v ∷ [] → MayStand 1 (vote_subject v) [] → AllWellSent alone (n ∷ [])
one_vote n v e stands =
    let s = knowing_nothing (vote_subject v) in
    of_all n (
    record {
      votes = s ∷ [];
      same = ap (map vote_subject) (sym e);
      came = All-cons (Knew (n ∷ [])) s [] (All-nil (Came (n ∷ []) (node_of 0))) (All-nil (Knew (n ∷ [])));
      alone = All-cons Alone s [] stands (All-nil Alone);
      order = AllPairs-cons Behind s [] (All-nil (Behind s)) (pairs_none Behind);
    }
    )

none_between : (x : ℕ) → 0 < x → x < 1 → ⊥
none_between x low high = omega (arith, low, high)

-- a certificate of the one member, whose vote was sent
module _ (noted : List Noted) (s : Subject) (v : Vote) (sent : Contains (sent_votes noted 0) v) (on : vote_subject v ≡ s) (by : vote_attestation v ≡ signed s) where
  counted : All (λ (a : Attestation). Contains (faulty_of alone) a.signer ⊎ HasSigned noted s a) (signed s ∷ [])
  counted =
      let P = λ (a : Attestation). Contains (faulty_of alone) a.signer ⊎ HasSigned noted s a in
      All-cons P (signed s) [] (inr (v, sent, on, by)) (All-nil P)

-- what holds of the one certificate that stands
one : (P : Certificate → Type 0) (x : Certificate) → P x → (c : Certificate) → Contains (x ∷ []) c → P c
one P x p c k = elim (Contains-cons_cases x [] c k) [ inl e ↦ subst P e p | inr r ↦ absurd (not_in_empty c r) ]

-- ---- what is said verifies

genuine_said : (n : Noted) → floor_in n.event ≡ [] → ((c : Certificate) → Contains (said_in n) c → IsVerifying alone c) → AreGenuine alone (n ∷ [])
unfolding AreGenuine
genuine_said n e f = (record { verifies = f; stood = λ c k. absurd (not_in_empty c (subst (λ xs. Contains xs c) e k)) }, tt)

nothing_said : (n : Noted) → floor_in n.event ≡ [] → said_in n ≡ [] → AreGenuine alone (n ∷ [])
nothing_said n e f = genuine_said n e (λ c k. absurd (not_in_empty c (subst (λ xs. Contains xs c) f k)))

-- ---- what holds of two conflicting certificates, and of a nullification

not_itself : (r s : Round) → ¬ (Conflict 1 (subjects.Nullify r) (subjects.Nullify s))
not_itself r s c = c

on_nothing : (r : Round) (p : Proposal) → ¬ (IsOn (subjects.Nullify r) p)
on_nothing r p (inl e) = cc
on_nothing r p (inr e) = cc

same_block : (p : Proposal) → ¬ (Conflict 1 (subjects.Notarize p) (subjects.Notarize p))
same_block p c = c.1 refl

not_two : ◌≡◌ {A = ℕ} 1 2 → ⊥
not_two e = omega (arith, e)

other_block : ¬ (block 1 ≡ block 2)
other_block e = not_two (ap (λ (p : Proposal). first p.payload) e)
  where
    first : List ℕ → ℕ
    first [] = 0
    first (x ∷ xs) = x

-- ---- an entry of no node has no say in what is stored and due

stored_apart : (xs : List Certificate) (out : List Vote) (cs : List Call) (before : List Noted) (node : Node) → AreStored (at_epoch_genesis alone) node before → AreStored (at_epoch_genesis alone) node (apart xs out cs ∷ before)
unfolding AreStored
stored_apart xs out cs before node h = ((λ e. absurd (never e)), h)
  where
    never : false ≡ true → ⊥
    never e = cc

ruled_apart : (xs : List Certificate) (out : List Vote) (cs : List Call) (before : List Noted) (node : Node) → AreByRule (at_epoch_genesis alone) node before → AreByRule (at_epoch_genesis alone) node (apart xs out cs ∷ before)
unfolding AreByRule
ruled_apart xs out cs before node h = ((λ e. absurd (never e)), h)
  where
    never : false ≡ true → ⊥
    never e = cc

nothing_stored : (node : Node) → AreStored (at_epoch_genesis alone) node []
unfolding AreStored
nothing_stored node = tt

nothing_ruled : (node : Node) → AreByRule (at_epoch_genesis alone) node []
unfolding AreByRule
nothing_ruled node = tt

-- so is a step that is broken, of what is due
ruled_broken : (cs : List Call) (node : Node) → AreByRule (at_epoch_genesis alone) node (its outcomes.Cut cs ∷ [])
unfolding AreByRule
ruled_broken cs node = ((λ e w. absurd (never w)), tt)
  where
    never : false ≡ true → ⊥
    never e = cc

-- no report, no blame
no_blame : (n : Noted) (before : List Noted) → ((member : ℕ) → BlameNot member n.entry.calls) → AreBlameless alone before → AreBlameless alone (n ∷ before)
unfolding AreBlameless
no_blame n before f h = ((λ member honest. f member), h)

nobody_blamed : AreBlameless alone []
unfolding AreBlameless
nobody_blamed = tt

silent : (member : ℕ) → BlameNot member []
silent member = All-nil (λ (call : Call). blames call member ≡ false)

and_call : (member : ℕ) (c : Call) (cs : List Call) → blames c member ≡ false → BlameNot member cs → BlameNot member (c ∷ cs)
and_call member c cs e h = All-cons (λ (call : Call). blames call member ≡ false) c cs e h

-- no block, no bar
unbarred : (member : ℕ) (cs : List Call) → blocked_by_calls cs ≡ [] → BarNot member cs
unbarred member [] e = All-nil (λ (call : Call). bars call member ≡ false)
unbarred member (calls.Block who why ∷ cs) e = cc
unbarred member (calls.Append n a ∷ cs) e = All-cons (λ (call : Call). bars call member ≡ false) (calls.Append n a) cs refl (unbarred member cs e)
unbarred member (calls.Sync n ∷ cs) e = All-cons (λ (call : Call). bars call member ≡ false) (calls.Sync n) cs refl (unbarred member cs e)
unbarred member (calls.Prune n ∷ cs) e = All-cons (λ (call : Call). bars call member ≡ false) (calls.Prune n) cs refl (unbarred member cs e)
unbarred member (calls.Send channel to bytes ∷ cs) e = All-cons (λ (call : Call). bars call member ≡ false) (calls.Send channel to bytes) cs refl (unbarred member cs e)
unbarred member (calls.Report activity ∷ cs) e = All-cons (λ (call : Call). bars call member ≡ false) (calls.Report activity) cs refl (unbarred member cs e)
unbarred member (calls.Relay payload plan ∷ cs) e = All-cons (λ (call : Call). bars call member ≡ false) (calls.Relay payload plan) cs refl (unbarred member cs e)

none_barred : (n : Noted) → blocked_by_calls n.entry.calls ≡ [] → NoneBarred alone (n ∷ [])
unfolding NoneBarred
none_barred n e = ((λ member honest. unbarred member n.entry.calls e), tt)

-- ---- where no certificate stands

record IsBare (noted : List Noted) : Type 0 where
  pub backed : AreBacked alone noted
  pub nothing : (c : Certificate) → ¬ (StandsIn noted c)

bare_its : (outcome : Outcome) (cs : List Call) → flat_map of_call cs ≡ [] → IsBare (its outcome cs ∷ [])
unfolding AreBacked StandsIn
bare_its outcome cs e =
    record {
      backed = ((λ c k v. absurd (none c k)), tt);
      nothing = λ c k. elim k [ inl here ↦ none c here | inr r ↦ r ];
    }
  where
    none : (c : Certificate) → ¬ (Contains (flat_map of_call cs ++ []) c)
    none c k = not_in_empty c (subst (λ xs. Contains (xs ++ []) c) e k)

bare_apart : (out : List Vote) (cs : List Call) → flat_map of_call cs ++ flat_map of_packet (map packet_of out) ≡ [] → IsBare (apart [] out cs ∷ [])
unfolding AreBacked StandsIn
bare_apart out cs e =
    record {
      backed = ((λ c k v. absurd (none c k)), tt);
      nothing = λ c k. elim k [ inl here ↦ none c here | inr r ↦ r ];
    }
  where
    none : (c : Certificate) → ¬ (Contains (flat_map of_call cs ++ flat_map of_packet (map packet_of out)) c)
    none c k = not_in_empty c (subst (λ xs. Contains xs c) e k)

bare_agrees : (noted : List Noted) → IsBare noted → AgreeAll alone noted
bare_agrees noted b x y sx sy = absurd (b.nothing x sx.0)

bare_named : (noted : List Noted) → IsBare noted → AllName alone noted
bare_named noted b c s = absurd (b.nothing c s.0)

bare_founded : (noted : List Noted) → IsBare noted → AreFounded alone noted
bare_founded noted b c p s on = absurd (b.nothing c s.0)

-- ---- where a nullification stands

abbrev lone : Round → List Vote → List Noted
lone r out = apart (nullified r ∷ []) out [] ∷ []

-- the one that stands
module _ (r : Round) where
  lone_bare : (P : Certificate → Type 0) → P (nullified r) → (c : Certificate) → StandsIn (lone r []) c → P c
  unfolding StandsIn
  lone_bare P p c k = elim k [ inl here ↦ one P (nullified r) p c here | inr none ↦ absurd none ]

  lone_sent : (P : Certificate → Type 0) → P (nullified r) → (c : Certificate) → StandsIn (lone r (votes.Nullify (own_nullify r) ∷ [])) c → P c
  unfolding StandsIn
  lone_sent P p c k = elim k [ inl here ↦ one P (nullified r) p c here | inr none ↦ absurd none ]

-- no two nullifications conflict
abbrev IsNullified : Certificate → Type 0
IsNullified c = (r : Round) × (certificate_subject c ≡ subjects.Nullify r)

apart_agree : (a b : Certificate) → IsNullified a → IsNullified b → ¬ (Conflict 1 (certificate_subject a) (certificate_subject b))
apart_agree a b x y c = not_itself x.0 y.0 (subst (λ s. Conflict 1 s (subjects.Nullify y.0)) x.1 (subst (Conflict 1 (certificate_subject a)) y.1 c))

-- ---- the samples

unbacked : AllBut (at_epoch_genesis alone) (sample Backed) Backed
unfolding AreBacked StandsIn sent_votes AreStored AreByRule AreBlameless voted calls_of life_in journal.kept
unbacked = record { others = others; agrees = λ a b sa sb. apart_agree a b (lone_bare near IsNullified (near, refl) a sa.0) (lone_bare near IsNullified (near, refl) b sb.0); fails = λ h. elim (All-head P (signed s) [] (h.0 (nullified near) (Contains-here (nullified near) []) (certified s))) [ inl bad ↦ honest bad | inr v ↦ none v.0 v.1 ] }
  where
    s : Subject
    s = subjects.Nullify near

    P : Attestation → Type 0
    P a = Contains (faulty_of alone) a.signer ⊎ HasSigned (sample Backed) (subjects.Nullify near) a

    none : (w : Vote) → ¬ (Contains (sent_votes (sample Backed) 0) w)
    none w k = not_in_empty w k

    others : (other : Word) → ¬ (other ≡ Backed) → Says (at_epoch_genesis alone) (sample Backed) other
    others Backed n = absurd (n refl)
    others Genuine n = genuine_said (apart (nullified near ∷ []) [] []) refl (λ c k. one (IsVerifying alone) (nullified near) (certified (subjects.Nullify near)) c k)
    others Named n = λ c st. lone_bare near (λ x. (subject_round (certificate_subject x)).epoch ≡ 0) refl c st.0
    others Founded n = λ c p st on. absurd (lone_bare near (λ x. ¬ (IsOn (certificate_subject x) p)) (on_nothing near p) c st.0 on)
    others Stored n = λ node h. stored_apart (nullified near ∷ []) [] [] [] node (nothing_stored node)
    others Ruled n = λ node h. ruled_apart (nullified near ∷ []) [] [] [] node (nothing_ruled node)
    others Ordered n = no_vote (apart (nullified near ∷ []) [] []) refl
    others Blameless n = no_blame (apart (nullified near ∷ []) [] []) [] silent nobody_blamed
    others Unbarred n = none_barred (apart (nullified near ∷ []) [] []) refl

-- a vote that went out, and its nullification, are backed
lone_out : (r : Round) → FitsVote (votes.Nullify (own_nullify r)) → sent_votes (lone r (votes.Nullify (own_nullify r) ∷ [])) 0 ≡ votes.Nullify (own_nullify r) ∷ []
lone_out r fits = sent_apart (nullified r ∷ []) (votes.Nullify (own_nullify r) ∷ []) [] [] nothing_sent (fits, tt)

lone_backed : (r : Round) → FitsVote (votes.Nullify (own_nullify r)) → AreBacked alone (lone r (votes.Nullify (own_nullify r) ∷ []))
unfolding AreBacked
lone_backed r fits = ((λ c k v. one (IsBackedIn alone (lone r (votes.Nullify (own_nullify r) ∷ []))) (nullified r) backed c k), tt)
  where
    v : Vote
    v = votes.Nullify (own_nullify r)

    backed : IsBackedIn alone (lone r (votes.Nullify (own_nullify r) ∷ [])) (nullified r)
    backed =
        counted (lone r (votes.Nullify (own_nullify r) ∷ [])) (subjects.Nullify r) (votes.Nullify (own_nullify r))
        (read_sent (lone r (votes.Nullify (own_nullify r) ∷ [])) (votes.Nullify (own_nullify r) ∷ []) (votes.Nullify (own_nullify r)) (lone_out r fits) (Contains-here (votes.Nullify (own_nullify r)) [])) refl refl

unnamed : AllBut (at_epoch_genesis alone) (sample Named) Named
unfolding AreBacked StandsIn sent_votes AreStored AreByRule AreBlameless voted calls_of life_in journal.kept
unnamed = record { others = others; agrees = λ a b sa sb. apart_agree a b (lone_sent far IsNullified (far, refl) a sa.0) (lone_sent far IsNullified (far, refl) b sb.0); fails = λ h. seven (h (nullified far) (stands, certified (subjects.Nullify far))) }
  where
    out : List Vote
    out = votes.Nullify (own_nullify far) ∷ []

    seven : ◌≡◌ {A = ℕ} 7 0 → ⊥
    seven e = omega (arith, e)

    stands : StandsIn (sample Named) (nullified far)
    stands = inl (Contains-here (nullified far) [])

    others : (other : Word) → ¬ (other ≡ Named) → Says (at_epoch_genesis alone) (sample Named) other
    others Named n = absurd (n refl)
    others Backed n = lone_backed far (nullify_fits 7 1 (omega arith) (omega arith))
    others Genuine n = genuine_said (apart (nullified far ∷ []) (votes.Nullify (own_nullify far) ∷ []) []) refl (λ c k. one (IsVerifying alone) (nullified far) (certified (subjects.Nullify far)) c k)
    others Founded n = λ c p st on. absurd (lone_sent far (λ x. ¬ (IsOn (certificate_subject x) p)) (on_nothing far p) c st.0 on)
    others Stored n = λ node h. stored_apart (nullified far ∷ []) (votes.Nullify (own_nullify far) ∷ []) [] [] node (nothing_stored node)
    others Ruled n = λ node h. ruled_apart (nullified far ∷ []) (votes.Nullify (own_nullify far) ∷ []) [] [] node (nothing_ruled node)
    others Ordered n = one_vote (apart (nullified far ∷ []) (votes.Nullify (own_nullify far) ∷ []) []) (votes.Nullify (own_nullify far)) (lone_out far (nullify_fits 7 1 (omega arith) (omega arith))) tt
    others Blameless n = no_blame (apart (nullified far ∷ []) (votes.Nullify (own_nullify far) ∷ []) []) [] silent nobody_blamed
    others Unbarred n = none_barred (apart (nullified far ∷ []) (votes.Nullify (own_nullify far) ∷ []) []) refl

unfounded : AllBut (at_epoch_genesis alone) (sample Founded) Founded
unfolding AreBacked StandsIn sent_votes AreStored AreByRule AreBlameless voted calls_of life_in journal.kept
unfounded = record { others = others; agrees = λ a b sa sb. which (λ x. ¬ (Conflict 1 (certificate_subject x) (certificate_subject b))) (which (λ y. ¬ (Conflict 1 (subjects.Notarize (block 1)) (certificate_subject y))) (same_block (block 1)) b sb.0) a sa.0; fails = λ h. (let f = h (notarized 1) (block 1) (stands, certified (subjects.Notarize (block 1))) (inl refl) in none f.member f.appended) }
  where
    v : Vote
    v = votes.Notarize (own_notarize 1)

    stands : StandsIn (sample Founded) (notarized 1)
    stands = inl (Contains-here (notarized 1) [])

    none : (member : ℕ) → ¬ (Contains (voted (calls_of (node_of member) (sample Founded))) (subjects.Notarize (block 1)))
    none member k = not_in_empty _ k

    out : sent_votes (sample Founded) 0 ≡ votes.Notarize (own_notarize 1) ∷ []
    out = sent_apart (notarized 1 ∷ []) (votes.Notarize (own_notarize 1) ∷ []) [] [] nothing_sent (notarize_fits 1 1 (omega arith) (omega arith), tt)

    which : (P : Certificate → Type 0) → P (notarized 1) → (c : Certificate) → StandsIn (sample Founded) c → P c
    which P p c k = elim k [ inl here ↦ one P (notarized 1) p c here | inr r ↦ absurd r ]

    backed : AreBacked alone (sample Founded)
    backed = (
      (λ c k w. one (IsBackedIn alone (sample Founded)) (notarized 1)
          (counted (sample Founded) (subjects.Notarize (block 1)) (votes.Notarize (own_notarize 1))
          (read_sent (sample Founded) (votes.Notarize (own_notarize 1) ∷ []) (votes.Notarize (own_notarize 1)) out (Contains-here (votes.Notarize (own_notarize 1)) [])) refl refl) c k),
      tt,
    )

    others : (other : Word) → ¬ (other ≡ Founded) → Says (at_epoch_genesis alone) (sample Founded) other
    others Founded n = absurd (n refl)
    others Backed n = backed
    others Genuine n = genuine_said (apart (notarized 1 ∷ []) (votes.Notarize (own_notarize 1) ∷ []) []) refl (λ c k. one (IsVerifying alone) (notarized 1) (certified (subjects.Notarize (block 1))) c k)
    others Named n = λ c st. which (λ x. (subject_round (certificate_subject x)).epoch ≡ 0) refl c st.0
    others Stored n = λ node h. stored_apart (notarized 1 ∷ []) (votes.Notarize (own_notarize 1) ∷ []) [] [] node (nothing_stored node)
    others Ruled n = λ node h. ruled_apart (notarized 1 ∷ []) (votes.Notarize (own_notarize 1) ∷ []) [] [] node (nothing_ruled node)
    others Ordered n = one_vote (apart (notarized 1 ∷ []) (votes.Notarize (own_notarize 1) ∷ []) []) (votes.Notarize (own_notarize 1)) out (λ x low high. absurd (none_between x low high))
    others Blameless n = no_blame (apart (notarized 1 ∷ []) (votes.Notarize (own_notarize 1) ∷ []) []) [] silent nobody_blamed
    others Unbarred n = none_barred (apart (notarized 1 ∷ []) (votes.Notarize (own_notarize 1) ∷ []) []) refl

-- ---- a record of a nullification that nobody signed

abbrev took : Certificate
took = certificates.Nullification bare_nullification

abbrev unsigned_record : List Call
unsigned_record = calls.Append 1 (artifacts.Nullification bare_nullification) ∷ []

unsigned : (s : Subject) → ¬ (is_certified (keyed_verifies 1 1 s) 1 [] ≡ true)
unfolding is_certified
unsigned s e = never e
  where
    never : false ≡ true → ⊥
    never h = cc

untrue : AllBut (at_epoch_genesis alone) (sample Genuine) Genuine
unfolding AreBacked AreGenuine StandsIn sent_votes AreStored AreByRule AreBlameless voted calls_of life_in journal.kept
untrue =
    record {
      others = others;
      agrees = λ a b sa sb. absurd (nothing a sa);
      fails = λ h. (let it = h.0 in bare took (Contains-here took []) (it.verifies took (Contains-here took [])));
    }
  where
    bare : (c : Certificate) → Contains (took ∷ []) c → ¬ (IsVerifying alone c)
    bare c k = one (λ x. ¬ (IsVerifying alone x)) took (unsigned (subjects.Nullify near)) c k

    nothing : (c : Certificate) → ¬ (Stands alone (sample Genuine) c)
    nothing c st = elim st.0 [ inl its_own ↦ bare c its_own st.1 | inr r ↦ r ]

    stored : (node : Node) → AreStored (at_epoch_genesis alone) node (sample Genuine)
    stored node = ((λ e before behind to bytes place. absurd (unsent before behind to bytes place)), tt)
      where
        unsent : (before behind : List Call) (to : Recipients) (bytes : List ℕ) → ¬ (unsigned_record ≡ before ++ (calls.Send channels.Vote to bytes ∷ behind))
        unsent [] behind to bytes e = cc
        unsent (x ∷ []) behind to bytes e = cc
        unsent (x ∷ y ∷ more) behind to bytes e = cc

    others : (other : Word) → ¬ (other ≡ Genuine) → Says (at_epoch_genesis alone) (sample Genuine) other
    others Genuine n = absurd (n refl)
    others Backed n = ((λ c k w. absurd (bare c k w)), tt)
    others Named n = λ c st. absurd (nothing c st)
    others Founded n = λ c p st on. absurd (nothing c st)
    others Stored n = λ node h. stored node
    others Ruled n = λ node h. ruled_broken unsigned_record node
    others Ordered n = no_vote (its outcomes.Cut unsigned_record) refl
    others Blameless n = no_blame (its outcomes.Cut unsigned_record) [] (λ member. and_call member (calls.Append 1 (artifacts.Nullification bare_nullification)) [] refl (silent member)) nobody_blamed
    others Unbarred n = none_barred (its outcomes.Cut unsigned_record) refl

-- ---- two notarizes of one view

abbrev rivals : List Vote
rivals = votes.Notarize (own_notarize 1) ∷ votes.Notarize (own_notarize 2) ∷ []

not_both : (sent : List Sent) → subjects_of sent ≡ map vote_subject rivals → AreInOrder 1 sent → ⊥
not_both [] e order = cc
not_both (a ∷ []) e order = cc
not_both (a ∷ b ∷ rest) e order =
    let first : a.subject ≡ subjects.Notarize (block 1) = cc in
    let second : b.subject ≡ subjects.Notarize (block 2) = cc in
    let may : MayFollow 1 a.subject b.subject b.known = order 0 1 a (omega arith) (omega arith) in
    let asks : MayFollow 1 (subjects.Notarize (block 1)) (subjects.Notarize (block 2)) b.known =
    subst (λ s. MayFollow 1 s (subjects.Notarize (block 2)) b.known) first (subst (λ s. MayFollow 1 a.subject s b.known) second may) in
    other_block (asks refl)

disordered : AllBut (at_epoch_genesis alone) (sample Ordered) Ordered
unfolding AllWellSent AreBacked StandsIn sent_votes AreStored AreByRule AreBlameless voted calls_of life_in journal.kept
disordered =
    record {
      others = others;
      agrees = bare_agrees (sample Ordered) bare;
      fails = λ h. (let w = h.0 0 (omega arith) honest in not_both w.votes (w.same ∙ ap (map vote_subject) out) w.order);
    }
  where
    out : sent_votes (sample Ordered) 0 ≡ rivals
    out = sent_apart [] rivals [] [] nothing_sent (notarize_fits 1 1 (omega arith) (omega arith), (notarize_fits 1 2 (omega arith) (omega arith), tt))

    bare : IsBare (sample Ordered)
    bare = bare_apart rivals [] refl

    others : (other : Word) → ¬ (other ≡ Ordered) → Says (at_epoch_genesis alone) (sample Ordered) other
    others Ordered n = absurd (n refl)
    others Backed n = bare.backed
    others Genuine n = nothing_said (apart [] rivals []) refl refl
    others Named n = bare_named (sample Ordered) bare
    others Founded n = bare_founded (sample Ordered) bare
    others Stored n = λ node h. stored_apart [] rivals [] [] node (nothing_stored node)
    others Ruled n = λ node h. ruled_apart [] rivals [] [] node (nothing_ruled node)
    others Blameless n = no_blame (apart [] rivals []) [] silent nobody_blamed
    others Unbarred n = none_barred (apart [] rivals []) refl

abbrev own : Vote
own = votes.Nullify (own_nullify near)

unstored : AllBut (at_epoch_genesis alone) (sample Stored) Stored
unfolding AreBacked StandsIn sent_votes AreStored AreByRule AreBlameless voted calls_of life_in journal.kept
unstored = record { others = others; agrees = bare_agrees (sample Stored) bare; fails = λ h. fails (h (node_of 0) honest) }
  where
    bare : IsBare (sample Stored)
    bare = bare_its outcomes.Cut (send own ∷ []) refl

    nothing_held : (v : Vote) → ¬ (IsRepeated (IsHeld (sections_in (life_in (at_epoch_genesis alone) [] (node_of 0)))) v)
    nothing_held (votes.Notarize v) h = h
    nothing_held (votes.Nullify v) h = not_in_empty _ h.2
    nothing_held (votes.Finalize v) h = h

    not_stored : (v : Vote) → ¬ (IsStored (record_of_vote v) [])
    not_stored v s = nowhere s.before _ _ s.place
      where
        nowhere : (before : List Call) (x : Call) (rest : List Call) → ¬ (◌≡◌ {A = List Call} [] (before ++ (x ∷ rest)))
        nowhere [] x rest e = cc
        nowhere (y ∷ before) x rest e = cc

    fails : ¬ (AreStored (at_epoch_genesis alone) (node_of 0) (sample Stored))
    fails h = (let x = h.0 refl [] [] recipients.All (format.vote.spelling own) refl in elim x.2 [ inl s ↦ not_stored x.0 s | inr r ↦ nothing_held x.0 r ])

    others : (other : Word) → ¬ (other ≡ Stored) → Says (at_epoch_genesis alone) (sample Stored) other
    others Stored n = absurd (n refl)
    others Backed n = bare.backed
    others Genuine n = nothing_said (its outcomes.Cut (send own ∷ [])) refl refl
    others Named n = bare_named (sample Stored) bare
    others Founded n = bare_founded (sample Stored) bare
    others Ruled n = λ node h. ruled_broken (send own ∷ []) node
    others Ordered n = no_vote (its outcomes.Cut (send own ∷ [])) refl
    others Blameless n = no_blame (its outcomes.Cut (send own ∷ [])) [] (λ member. and_call member (send own) [] refl (silent member)) nobody_blamed
    others Unbarred n = none_barred (its outcomes.Cut (send own ∷ [])) refl

signed_own : IsOwn (rules_of (at_epoch_genesis alone) 0 0) own
unfolding rules_of keyed_attests
signed_own = (plain_attests (keyed_attests 1 (Some 0)) (keyed_verifies 1 1) (vote_subject own), (refl, omega arith))

its_own : (node : Node) → node_of 0 ≡ node → IsOwn (rules_of (at_epoch_genesis alone) node.member 0) own
its_own node e = subst (λ (n : Node). IsOwn (rules_of (at_epoch_genesis alone) n.member 0) own) e signed_own

abbrev storing : List Call
storing = calls.Append 1 (artifacts.Nullify (own_nullify near)) ∷ calls.Sync 1 ∷ send own ∷ []

undue : AllBut (at_epoch_genesis alone) (sample Ruled) Ruled
unfolding AreBacked StandsIn sent_votes AreStored AreByRule AreBlameless voted calls_of life_in journal.kept
undue = record { others = others; agrees = bare_agrees (sample Ruled) bare; fails = λ h. fails (h (node_of 0) honest) }
  where
    bare : IsBare (sample Ruled)
    bare = bare_its outcomes.Done storing refl

    fails : ¬ (AreByRule (at_epoch_genesis alone) (node_of 0) (sample Ruled))
    fails h = (let e = h.0 refl refl in cc)

    stored_here : (before behind : List Call) (to : Recipients) (bytes : List ℕ) (Earlier : Nullify → Type 0) (Own : Vote → Type 0) → Own own → storing ≡ before ++ (calls.Send channels.Vote to bytes ∷ behind)
        → (v : Vote) × (bytes ≡ format.vote.spelling v) × (IsStored (record_of_vote v) before ⊎ IsRepeated Earlier v) × Own v
    stored_here [] behind to bytes Earlier Own o e = cc
    stored_here (x ∷ []) behind to bytes Earlier Own o e = cc
    stored_here (x ∷ y ∷ []) behind to bytes Earlier Own o e =
        let first : calls.Append 1 (artifacts.Nullify (own_nullify near)) ≡ x = cc in
        let second : calls.Sync 1 ≡ y = cc in
        let third : send own ≡ calls.Send channels.Vote to bytes = cc in
        let same : format.vote.spelling own ≡ bytes = cc in
        (own, sym same, inl (record { before = []; between = []; behind = []; place = sym (cc (first, second)) }), o)
    stored_here (x ∷ y ∷ z ∷ []) behind to bytes Earlier Own o e = cc
    stored_here (x ∷ y ∷ z ∷ w ∷ more) behind to bytes Earlier Own o e = cc

    stored : (node : Node) → AreStored (at_epoch_genesis alone) node (sample Ruled)
    stored node =
        ((λ e before behind to bytes place. stored_here before behind to bytes (IsHeld (sections_in (life_in (at_epoch_genesis alone) [] node))) (IsOwn (rules_of (at_epoch_genesis alone) node.member 0)) (its_own node (same_node (node_of 0) node e)) place), tt)

    others : (other : Word) → ¬ (other ≡ Ruled) → Says (at_epoch_genesis alone) (sample Ruled) other
    others Ruled n = absurd (n refl)
    others Backed n = bare.backed
    others Genuine n = nothing_said (its outcomes.Done storing) refl refl
    others Named n = bare_named (sample Ruled) bare
    others Founded n = bare_founded (sample Ruled) bare
    others Stored n = λ node h. stored node
    others Ordered n = no_vote (its outcomes.Done storing) refl
    others Blameless n =
        no_blame (its outcomes.Done storing) [] (λ member. and_call member (calls.Append 1 (artifacts.Nullify (own_nullify near))) (calls.Sync 1 ∷ send own ∷ []) refl (and_call member (calls.Sync 1) (send own ∷ []) refl (and_call member (send own) [] refl (silent member)))) nobody_blamed
    others Unbarred n = none_barred (its outcomes.Done storing) refl

abbrev report : Call
report = calls.Report (activities.ConflictingNotarize (record { first = own_notarize 1; second = own_notarize 2 }))

blamed : AllBut (at_epoch_genesis alone) (sample Blameless) Blameless
unfolding AreBacked StandsIn sent_votes AreStored AreByRule AreBlameless voted calls_of life_in journal.kept
blamed = record { others = others; agrees = bare_agrees (sample Blameless) bare; fails = fails }
  where
    bare : IsBare (sample Blameless)
    bare = bare_apart [] (report ∷ []) refl

    fails : ¬ (AreBlameless alone (sample Blameless))
    fails h = (let e = All-head (λ (call : Call). blames call 0 ≡ false) report [] (h.0 0 honest) in cc)

    others : (other : Word) → ¬ (other ≡ Blameless) → Says (at_epoch_genesis alone) (sample Blameless) other
    others Blameless n = absurd (n refl)
    others Backed n = bare.backed
    others Genuine n = nothing_said (apart [] [] (report ∷ [])) refl refl
    others Named n = bare_named (sample Blameless) bare
    others Founded n = bare_founded (sample Blameless) bare
    others Stored n = λ node h. stored_apart [] [] (report ∷ []) [] node (nothing_stored node)
    others Ruled n = λ node h. ruled_apart [] [] (report ∷ []) [] node (nothing_ruled node)
    others Ordered n = no_vote (apart [] [] (report ∷ [])) refl
    others Unbarred n = none_barred (apart [] [] (report ∷ [])) refl

abbrev bar : Call
bar = calls.Block 0 ConflictingVotes

barred : AllBut (at_epoch_genesis alone) (sample Unbarred) Unbarred
unfolding AreBacked StandsIn sent_votes AreStored AreByRule NoneBarred voted calls_of life_in journal.kept
barred = record { others = others; agrees = bare_agrees (sample Unbarred) bare; fails = fails }
  where
    bare : IsBare (sample Unbarred)
    bare = bare_apart [] (bar ∷ []) refl

    fails : ¬ (NoneBarred alone (sample Unbarred))
    fails h = (let e = All-head (λ (call : Call). bars call 0 ≡ false) bar [] (h.0 0 honest) in cc)

    others : (other : Word) → ¬ (other ≡ Unbarred) → Says (at_epoch_genesis alone) (sample Unbarred) other
    others Unbarred n = absurd (n refl)
    others Backed n = bare.backed
    others Genuine n = nothing_said (apart [] [] (bar ∷ [])) refl refl
    others Named n = bare_named (sample Unbarred) bare
    others Founded n = bare_founded (sample Unbarred) bare
    others Stored n = λ node h. stored_apart [] [] (bar ∷ []) [] node (nothing_stored node)
    others Ruled n = λ node h. ruled_apart [] [] (bar ∷ []) [] node (nothing_ruled node)
    others Ordered n = no_vote (apart [] [] (bar ∷ [])) refl
    others Blameless n = no_blame (apart [] [] (bar ∷ [])) [] (λ member. and_call member bar [] refl (silent member)) nobody_blamed

pub each_word : (word : Word) → AllBut (at_epoch_genesis alone) (sample word) word
each_word Backed = unbacked
each_word Genuine = untrue
each_word Named = unnamed
each_word Founded = unfounded
each_word Stored = unstored
each_word Ruled = undue
each_word Ordered = disordered
each_word Blameless = blamed
each_word Unbarred = barred

-- ---- a notarization that comes late

abbrev saw : agreement.Certificate
saw = statement_of (certificates.Notarization its_notarization)

abbrev at_notarize : Sent
at_notarize = knowing_nothing (subjects.Notarize (block 1))

abbrev at_finalize : Sent
at_finalize = record { subject = subjects.Finalize (block 1); known = saw ∷ [] }

finalize_fits : FitsVote (votes.Finalize own_finalize)
finalize_fits = (block_fits 1 1 (omega arith) (omega arith), (omega arith, signature_raw 1 0 (subjects.Finalize (block 1))))

hasty_out : sent_votes (hasty ∷ []) 0 ≡ hasty_votes
hasty_out = sent_apart [] hasty_votes [] [] nothing_sent (notarize_fits 1 1 (omega arith) (omega arith), (finalize_fits, tt))

late_out : sent_votes late 0 ≡ hasty_votes
unfolding sent_votes
late_out = ap (λ (vs : List Vote). vs ++ []) hasty_out

-- over all entries it knew what it needs
pub late_whole : EachWellSent alone late
unfolding calls_of taken
late_whole member below good = subst (AreWellSent alone late) (zero_is member below) sent
  where
    knew : All (Knew late) (at_notarize ∷ at_finalize ∷ [])
    knew =
        All-cons (Knew late) at_notarize (at_finalize ∷ []) (All-nil (Came late (node_of 0)))
        (All-cons (Knew late) at_finalize [] (All-cons (Came late (node_of 0)) saw [] (inl (Contains-here saw [])) (All-nil (Came late (node_of 0)))) (All-nil (Knew late)))

    sent : AreWellSent alone late 0
    sent =
        record {
          votes = at_notarize ∷ at_finalize ∷ [];
          same = ap (map vote_subject) (sym late_out);
          came = knew;
          alone = All-cons Alone at_notarize (at_finalize ∷ []) (λ x low high. absurd (none_between x low high)) (All-cons Alone at_finalize [] (0 ∷ [], Contains-here saw []) (All-nil Alone));
          order = AllPairs-cons Behind at_notarize (at_finalize ∷ []) (All-cons (Behind at_notarize) at_finalize [] tt (All-nil (Behind at_notarize)))
              (AllPairs-cons Behind at_finalize [] (All-nil (Behind at_finalize)) (pairs_none Behind));
        }

nothing_came : (c : agreement.Certificate) → ¬ (Came (hasty ∷ []) (node_of 0) c)
unfolding calls_of taken floors_of
nothing_came c (inl k) = not_in_empty c k
nothing_came c (inr k) = not_in_empty c k

too_hasty : (sent : List Sent) → subjects_of sent ≡ map vote_subject hasty_votes → All (Knew (hasty ∷ [])) sent → All Alone sent → ⊥
too_hasty [] e came may = cc
too_hasty (a ∷ []) e came may = cc
too_hasty (a ∷ b ∷ rest) e came may =
    let second : b.subject ≡ subjects.Finalize (block 1) = cc in
    let needs : MayStand 1 (subjects.Finalize (block 1)) b.known = subst (λ s. MayStand 1 s b.known) second (may 1 a (omega arith)) in
    nothing_came _ (All-contains (Came (hasty ∷ []) (node_of 0)) b.known _ (came 1 a (omega arith)) needs.1)

-- and not behind the entry that sends the finalize
pub late_refused : ¬ (AllWellSent alone late)
unfolding AllWellSent
late_refused h = (let w = h.1.0 0 (omega arith) honest in too_hasty w.votes (w.same ∙ ap (map vote_subject) hasty_out) w.came w.alone)

-- ---- the premises

pub nothing_yet : IsMostlyHonest (at_epoch_genesis alone) []
unfolding IsRun
nothing_yet = record { some = omega arith; not_many = omega arith; term = omega arith; epoch = omega arith; few = omega arith; ran = tt; typed = tt }

ticked : IsRun (at_epoch_genesis with_silent) after_tick
unfolding IsRun entry_of made_of unless_forged first_forged is_forged signed_in life.clock_of
ticked = (events.Tick 5, refl, tt)

sent_noise : entry_of (at_epoch_genesis with_silent) after_tick noise ≡ Ok (noted_packets after_tick noise (node_of 3) None (record { from = node_of 3; channel = channels.Vote; to = at ∷ []; bytes = 7 ∷ [] } ∷ []))
unfolding entry_of made_of unless_forged first_forged is_forged signed_in format.vote
sent_noise = refl

pub noisy : IsMostlyHonest (at_epoch_genesis with_silent) after_noise
unfolding IsRun
noisy =
    record {
      some = omega arith;
      not_many = omega arith;
      term = omega arith;
      epoch = omega arith;
      few = omega arith;
      ran = (noise, sent_noise, ticked);
      typed = (record { handed = tt; calls = tt; bytes = (to_bytes (7 ∷ []) (omega arith, tt), tt) }, (record { handed = tt; calls = tt; bytes = tt }, tt));
    }
