-- How each call of a step is lived: it is legal, and the member then remembers what the voter knows.
use Rattle.std.proofs.Common.{◌≡◌, ℕ, ◌≤◌, ◌==◌, ◌≢◌, Bool, true, false, nat_lt, List, [], ◌∷◌, ◌++◌, map, take, drop, take-append-drop, refl, sym, ap, ◌∙◌, subst, inl, inr, ◌⊎◌, append-nil, append_assoc, if◌then◌else◌, eqb-true}
use Rattle.std.proofs.lemmas.Bool.{eqb-false}
use Rattle.std.proofs.lemmas.List.{map-append}
use Rattle.simplex_values.specs.declared.plan.Channel.TheVariants as channels
use Rattle.simplex_values.specs.declared.plan.Recipients.{Recipients}
use Rattle.simplex_values.specs.declared.plan.Recipients.TheVariants as recipients
use Rattle.simplex_values.specs.declared.proposal.Subject.{Subject}
use Rattle.simplex_values.specs.declared.proposal.Subject.TheVariants as subjects
use Rattle.simplex_wire.specs.declared.vote.Nullify.{Nullify}
use Rattle.simplex_wire.specs.declared.vote.Vote.{Vote}
use Rattle.simplex_wire.specs.declared.vote.Vote.TheVariants as votes
use Rattle.simplex_wire.specs.declared.artifact.Artifact.{Artifact}
use Rattle.simplex_wire.specs.declared.artifact.Artifact.TheVariants as artifacts
use Rattle.simplex_wire.specs.Fields.{artifact_round, vote_subject}
use Rattle.simplex_wire.specs.Message as format
use Rattle.simplex_messages.specs.declared.call.Call.{Call}
use Rattle.simplex_messages.specs.declared.call.Call.TheVariants as calls
use Rattle.model_rules.specs.Known.{Made, Fact}
use Rattle.law_agreement.specs.World.{Sent}
use Rattle.law_agreement.specs.Artifacts as member
use Rattle.law_agreement.specs.Journal as kept
use Rattle.law_agreement.specs.Journal.{Section}
use Rattle.law_agreement.specs.Member as life
use Rattle.law_agreement.specs.Member.{Member, happens, run, IsLegal, May}
use Rattle.law_agreement.specs.Votes.{MayVote}
use Rattle.law_agreement.proofs.CallFacts.{IsLegal-append}
use Rattle.law_agreement.proofs.JournalFacts.{prune_waiting}
use Rattle.law_member.specs.Life.{memory_of, remembered, IsInOrder, IsEarlier}
use Rattle.law_member.specs.Storing.{record_of_vote, IsStored, IsRepeated, IsOwn, AreStoredFirst}
use Rattle.law_member.proofs.Facts.{SameMemory}
use Rattle.law_member.proofs.Journals.{memory_view}
use Rattle.law_member.proofs.Living.{noting, doing_of, doings, doings-append, behind, behind-append, IsFit, AreFit, AreFit-append, subjects_of, SendsNext, Sends, Sends-append}

-- ---- what is pending

none_left : {X : Type 0} (xs ys : List X) → xs ++ ys ≡ [] → (xs ≡ []) × (ys ≡ [])
none_left [] ys e = (refl, e)
none_left (x ∷ xs) ys e = cc

-- nothing is pending but in the section of this view
abbrev pub Only : ℕ → List Section → Type 0
Only view [] = Unit {0}
Only view (s ∷ rest) = (s.view ≢ view → s.pending ≡ []) × Only view rest

pub only_from : (view : ℕ) (j : List Section) → kept.waiting j ≡ [] → Only view j
only_from view [] e = tt
only_from view (s ∷ rest) e = let p = none_left s.pending (kept.waiting rest) e in (λ other. p.0, only_from view rest p.1)

only_append_at : (view : ℕ) (a : member.Artifact) (s : Section) (rest : List Section) (b c : Bool) → (s.view == view) ≡ b → Only view (s ∷ rest)
    → Only view (kept.append_to view a rest)
    → Only view (if b then record s { pending = s.pending ++ a ∷ [] } ∷ rest else (if c then kept.opened view a ∷ s ∷ rest else s ∷ kept.append_to view a rest))
only_append_at view a s rest true c e o ih = (λ other. absurd (other (eqb-true s.view view e)), o.1)
only_append_at view a s rest false true e o ih = (λ other. absurd (other refl), o)
only_append_at view a s rest false false e o ih = (o.0, ih)

only_append_to : (view : ℕ) (a : member.Artifact) (j : List Section) → Only view j → Only view (kept.append_to view a j)
only_append_to view a [] o = (λ other. absurd (other refl), tt)
only_append_to view a (s ∷ rest) o = only_append_at view a s rest (s.view == view) (nat_lt view s.view) refl o (only_append_to view a rest o.1)

pub only_append : (view : ℕ) (a : member.Artifact) (j : List Section) → member.artifact_view a ≡ view → Only view j → Only view (kept.append a j)
only_append view a j e o = subst (λ v. Only view (kept.append_to v a j)) (sym e) (only_append_to view a j o)

sync_pending : (s : Section) (b : Bool) (view : ℕ) → (s.view == view) ≡ b → (s.view ≢ view → s.pending ≡ []) → (if b then kept.synced_section s else s).pending ≡ []
sync_pending s true view e o = refl
sync_pending s false view e o = o (eqb-false s.view view e)

pub only_sync : (view : ℕ) (j : List Section) → Only view j → kept.waiting (kept.sync view j) ≡ []
only_sync view [] o = refl
only_sync view (s ∷ rest) o = ap (λ xs. xs ++ kept.waiting (kept.sync view rest)) (sync_pending s (s.view == view) view refl o.0) ∙ only_sync view rest o.1

-- ---- what is stored

-- the vote's record is appended among these calls
pub record IsAppended (v : Vote) (cs : List Call) : Type 0 where
  pub before : List Call
  pub behind : List Call
  pub place : cs ≡ before ++ (calls.Append (artifact_round (record_of_vote v)).view (record_of_vote v) ∷ behind)

-- it is so in this view's section, or the vote is a nullify that was made before
abbrev pub IsNoted : Made → Member → ℕ → List Call → Vote → Type 0
IsNoted made m view cs v = (IsRepeated (IsEarlier m) v ⊎ (IsAppended v cs × ((artifact_round (record_of_vote v)).view ≡ view))) × IsOwn made v

abbrev pub IsKept : Made → Member → List Call → Vote → Type 0
IsKept made m cs v = (IsStored (record_of_vote v) cs ⊎ IsRepeated (IsEarlier m) v) × IsOwn made v

abbrev pub AllNoted : Made → Member → ℕ → List Call → List Vote → Type 0
AllNoted made m view cs [] = Unit {0}
AllNoted made m view cs (v ∷ rest) = IsNoted made m view cs v × AllNoted made m view cs rest

abbrev pub AllKept : Made → Member → List Call → List Vote → Type 0
AllKept made m cs [] = Unit {0}
AllKept made m cs (v ∷ rest) = IsKept made m cs v × AllKept made m cs rest

appended_more : (v : Vote) (cs : List Call) (c : Call) → IsAppended v cs → IsAppended v (cs ++ c ∷ [])
appended_more v cs c a =
    record {
      before = a.before;
      behind = a.behind ++ c ∷ [];
      place = ap (λ xs. xs ++ c ∷ []) a.place ∙ append_assoc a.before (calls.Append (artifact_round (record_of_vote v)).view (record_of_vote v) ∷ a.behind) (c ∷ []);
    }

stored_more : (a : Artifact) (cs : List Call) (c : Call) → IsStored a cs → IsStored a (cs ++ c ∷ [])
stored_more a cs c s =
    let view = (artifact_round a).view in
    record {
      before = s.before;
      between = s.between;
      behind = s.behind ++ c ∷ [];
      place = ap (λ xs. xs ++ c ∷ []) s.place
          ∙ append_assoc s.before (calls.Append view a ∷ (s.between ++ (calls.Sync view ∷ s.behind))) (c ∷ [])
          ∙ ap (λ xs. s.before ++ (calls.Append view a ∷ xs)) (append_assoc s.between (calls.Sync view ∷ s.behind) (c ∷ []));
    }

synced_now : (v : Vote) (view : ℕ) (cs : List Call) → IsAppended v cs → (artifact_round (record_of_vote v)).view ≡ view → IsStored (record_of_vote v) (cs ++ calls.Sync view ∷ [])
synced_now v view cs a e =
    record {
      before = a.before;
      between = a.behind;
      behind = [];
      place = ap (λ xs. xs ++ calls.Sync view ∷ []) a.place
          ∙ append_assoc a.before (calls.Append (artifact_round (record_of_vote v)).view (record_of_vote v) ∷ a.behind) (calls.Sync view ∷ [])
          ∙ ap (λ n. a.before ++ (calls.Append (artifact_round (record_of_vote v)).view (record_of_vote v) ∷ (a.behind ++ calls.Sync n ∷ []))) (sym e);
    }

noted_more : (made : Made) (m : Member) (view : ℕ) (cs : List Call) (c : Call) (queue : List Vote) → AllNoted made m view cs queue → AllNoted made m view (cs ++ c ∷ []) queue
noted_more made m view cs c [] h = tt
noted_more made m view cs c (v ∷ rest) h =
    ((elim h.0.0 [ inl early ↦ inl early | inr a ↦ inr (appended_more v cs c a.0, a.1) ], h.0.1), noted_more made m view cs c rest h.1)

AllNoted-append : (made : Made) (m : Member) (view : ℕ) (cs : List Call) (xs ys : List Vote) → AllNoted made m view cs xs → AllNoted made m view cs ys → AllNoted made m view cs (xs ++ ys)
AllNoted-append made m view cs [] ys h k = k
AllNoted-append made m view cs (x ∷ xs) ys h k = (h.0, AllNoted-append made m view cs xs ys h.1 k)

kept_more : (made : Made) (m : Member) (cs : List Call) (c : Call) (queue : List Vote) → AllKept made m cs queue → AllKept made m (cs ++ c ∷ []) queue
kept_more made m cs c [] h = tt
kept_more made m cs c (v ∷ rest) h =
    ((elim h.0.0 [ inl s ↦ inl (stored_more (record_of_vote v) cs c s) | inr early ↦ inr early ], h.0.1), kept_more made m cs c rest h.1)

all_synced : (made : Made) (m : Member) (view : ℕ) (cs : List Call) (queue : List Vote) → AllNoted made m view cs queue → AllKept made m (cs ++ calls.Sync view ∷ []) queue
all_synced made m view cs [] h = tt
all_synced made m view cs (v ∷ rest) h =
    ((elim h.0.0 [ inl early ↦ inr early | inr a ↦ inl (synced_now v view cs a.0 a.1) ], h.0.1), all_synced made m view cs rest h.1)

-- one more call: where it goes out on the vote channel, it is a vote that is kept
abbrev pub MaySend : Made → Member → List Call → Call → Type 0
MaySend made m cs (calls.Send channels.Vote to bytes) = (v : Vote) × (bytes ≡ format.vote.spelling v) × IsKept made m cs v
MaySend made m cs _ = Unit {0}

push_cases : (cs before : List Call) (c x : Call) (behind : List Call) → cs ++ c ∷ [] ≡ before ++ (x ∷ behind)
    → ((before ≡ cs) × (c ≡ x)) ⊎ ((rest : List Call) × (cs ≡ before ++ (x ∷ rest)))
push_cases [] [] c x behind e = inl (refl, cc)
push_cases [] (b ∷ []) c x behind e = cc
push_cases [] (b ∷ d ∷ before) c x behind e = cc
push_cases (y ∷ cs) [] c x behind e = inr (cs, ap (λ z. z ∷ cs) (let same : y ≡ x = cc in same))
push_cases (y ∷ cs) (b ∷ before) c x behind e =
    let head : y ≡ b = cc in
    let tail : cs ++ c ∷ [] ≡ before ++ (x ∷ behind) = cc in
    elim (push_cases cs before c x behind tail) [
      | inl p ↦ inl (cc (p.0, head), p.1)
      | inr p ↦ inr (p.0, cc (head, p.1))
    ]

may_send : (made : Made) (m : Member) (cs : List Call) (c : Call) (to : Recipients) (bytes : List ℕ) → c ≡ calls.Send channels.Vote to bytes → MaySend made m cs c
    → (v : Vote) × (bytes ≡ format.vote.spelling v) × IsKept made m cs v
may_send made m cs c to bytes e may = subst (MaySend made m cs) e may

first_push : (made : Made) (m : Member) (cs : List Call) (c : Call) → AreStoredFirst (IsEarlier m) (IsOwn made) cs → MaySend made m cs c → AreStoredFirst (IsEarlier m) (IsOwn made) (cs ++ c ∷ [])
first_push made m cs c stored may before behind to bytes e =
    elim (push_cases cs before c (calls.Send channels.Vote to bytes) behind e) [
      | inl p ↦ (let s = may_send made m cs c to bytes p.1 may in let k = subst (λ xs. IsKept made m xs s.0) (sym p.0) s.2 in (s.0, s.1, k.0, k.1))
      | inr p ↦ stored before p.0 to bytes p.1
    ]

in_all : (cs before : List Call) (x : Call) (behind : List Call) (k : ℕ) → take k cs ≡ before ++ (x ∷ behind) → cs ≡ before ++ (x ∷ (behind ++ drop k cs))
in_all cs before x behind k e = sym (take-append-drop k cs) ∙ ap (λ xs. xs ++ drop k cs) e ∙ append_assoc before (x ∷ behind) (drop k cs)

pub first_take : (Earlier : Nullify → Type 0) (Own : Vote → Type 0) (k : ℕ) (cs : List Call) → AreStoredFirst Earlier Own cs → AreStoredFirst Earlier Own (take k cs)
first_take Earlier Own k cs stored before behind to bytes e =
    stored before (behind ++ drop k cs) to bytes (in_all cs before (calls.Send channels.Vote to bytes) behind k e)

pub nothing_first : (made : Made) (m : Member) → AreStoredFirst (IsEarlier m) (IsOwn made) []
nothing_first made m [] behind to bytes e = cc
nothing_first made m (b ∷ before) behind to bytes e = cc

-- ---- one step's calls so far, what is known, and the votes that wait to be sent

pub record Sim (made : Made) (m : Member) (cs : List Call) (facts : List Fact) (queue : List Vote) : Type 0 where
  pub legal : IsLegal made.term_length m (doings cs)
  pub up : (behind m cs).up ≡ true
  pub memory : (behind m cs).known ≡ remembered facts
  pub order : IsInOrder made facts
  pub box : subjects_of (behind m cs).outbox ≡ map vote_subject queue
  pub fit : AreFit made cs
  pub sends : Sends m cs
  pub first : AreStoredFirst (IsEarlier m) (IsOwn made) cs

pub behind-push : (m : Member) (cs : List Call) (c : Call) → behind m (cs ++ c ∷ []) ≡ run (behind m cs) (doing_of c)
behind-push m cs c = behind-append m cs (c ∷ []) ∙ ap (run (behind m cs)) (append-nil (doing_of c))

sim_more : (made : Made) (m : Member) (cs : List Call) (facts later : List Fact) (queue left : List Vote) → Sim made m cs facts queue → (c : Call)
    → IsLegal made.term_length (behind m cs) (doing_of c) → (run (behind m cs) (doing_of c)).up ≡ true
    → (run (behind m cs) (doing_of c)).known ≡ remembered later → IsInOrder made later
    → subjects_of (run (behind m cs) (doing_of c)).outbox ≡ map vote_subject left → IsFit made c → SendsNext (behind m cs) c → MaySend made m cs c
    → Sim made m (cs ++ c ∷ []) later left
sim_more made m cs facts later queue left sim c legal up memory order box fit sends may =
    let push = behind-push m cs c in
    record {
      legal = subst (IsLegal made.term_length m) (sym (doings-append cs (c ∷ [])))
          (IsLegal-append made.term_length m (doings cs) (doing_of c ++ []) sim.legal (subst (IsLegal made.term_length (behind m cs)) (sym (append-nil (doing_of c))) legal));
      up = ap (λ (n : Member). n.up) push ∙ up;
      memory = ap (λ (n : Member). n.known) push ∙ memory;
      order = order;
      box = ap (λ (n : Member). subjects_of n.outbox) push ∙ box;
      fit = AreFit-append made cs (c ∷ []) sim.fit (fit, tt);
      sends = Sends-append m cs (c ∷ []) sim.sends (sends, tt);
      first = first_push made m cs c sim.first may;
    }

pub sim_known : (made : Made) (m : Member) (cs : List Call) (facts later : List Fact) (queue : List Vote) → SameMemory made facts later
    → Sim made m cs facts queue → Sim made m cs later queue
sim_known made m cs facts later queue same sim =
    record { legal = sim.legal; up = sim.up; memory = sim.memory ∙ sym same.memory; order = same.order sim.order; box = sim.box; fit = sim.fit; sends = sim.sends; first = sim.first }

-- calls that neither the journal nor the vote channel sees
abbrev pub IsPlain : Call → Type 0
IsPlain (calls.Report activity) = Unit {0}
IsPlain (calls.Relay payload plan) = Unit {0}
IsPlain (calls.Block who why) = Unit {0}
IsPlain (calls.Send channels.Certificate to bytes) = Unit {0}
IsPlain _ = ⊥

pub plain_behind : (m : Member) (cs : List Call) (c : Call) → IsPlain c → behind m (cs ++ c ∷ []) ≡ behind m cs
plain_behind m cs (calls.Report activity) p = behind-push m cs (calls.Report activity)
plain_behind m cs (calls.Relay payload plan) p = behind-push m cs (calls.Relay payload plan)
plain_behind m cs (calls.Block who why) p = behind-push m cs (calls.Block who why)
plain_behind m cs (calls.Send channels.Certificate to bytes) p = behind-push m cs (calls.Send channels.Certificate to bytes)
plain_behind m cs (calls.Send channels.Vote to bytes) p = absurd p
plain_behind m cs (calls.Send channels.Resolver to bytes) p = absurd p
plain_behind m cs (calls.Append n a) p = absurd p
plain_behind m cs (calls.Sync n) p = absurd p
plain_behind m cs (calls.Prune n) p = absurd p

pub sim_plain : (made : Made) (m : Member) (cs : List Call) (facts : List Fact) (queue : List Vote) (c : Call) → IsPlain c
    → Sim made m cs facts queue → Sim made m (cs ++ c ∷ []) facts queue
sim_plain made m cs facts queue (calls.Report activity) p sim =
    sim_more made m cs facts facts queue queue sim (calls.Report activity) tt sim.up sim.memory sim.order sim.box tt tt tt
sim_plain made m cs facts queue (calls.Relay payload plan) p sim =
    sim_more made m cs facts facts queue queue sim (calls.Relay payload plan) tt sim.up sim.memory sim.order sim.box tt tt tt
sim_plain made m cs facts queue (calls.Block who why) p sim =
    sim_more made m cs facts facts queue queue sim (calls.Block who why) tt sim.up sim.memory sim.order sim.box tt tt tt
sim_plain made m cs facts queue (calls.Send channels.Certificate to bytes) p sim =
    sim_more made m cs facts facts queue queue sim (calls.Send channels.Certificate to bytes) tt sim.up sim.memory sim.order sim.box tt tt tt
sim_plain made m cs facts queue (calls.Send channels.Vote to bytes) p sim = absurd p
sim_plain made m cs facts queue (calls.Send channels.Resolver to bytes) p sim = absurd p
sim_plain made m cs facts queue (calls.Append n a) p sim = absurd p
sim_plain made m cs facts queue (calls.Sync n) p sim = absurd p
sim_plain made m cs facts queue (calls.Prune n) p sim = absurd p

-- ---- a record is appended

-- a vote where the rule gives it, a verdict where it is taken, a certificate always
abbrev pub MayNote : Made → List Fact → Artifact → Type 0
MayNote made facts (artifacts.Notarize v) = MayVote made.term_length (remembered facts) (subjects.Notarize v.proposal)
MayNote made facts (artifacts.Nullify v) = MayVote made.term_length (remembered facts) (subjects.Nullify v.round)
MayNote made facts (artifacts.Finalize v) = MayVote made.term_length (remembered facts) (subjects.Finalize v.proposal)
MayNote made facts (artifacts.Certification round good) = member.is_taken (remembered facts) (member.Judged round.view good) ≡ true
MayNote made facts _ = Unit {0}

-- the vote that waits then
abbrev pub queued : Artifact → List Vote
queued (artifacts.Notarize v) = votes.Notarize v ∷ []
queued (artifacts.Nullify v) = votes.Nullify v ∷ []
queued (artifacts.Finalize v) = votes.Finalize v ∷ []
queued _ = []

note_may : (made : Made) (facts : List Fact) (n : Member) (a : Artifact) → n.up ≡ true → n.known ≡ remembered facts → MayNote made facts a → May made.term_length n (noting a)
note_may made facts n (artifacts.Notarize v) up e may = (up, subst (λ known. MayVote made.term_length known (subjects.Notarize v.proposal)) (sym e) may)
note_may made facts n (artifacts.Nullify v) up e may = (up, subst (λ known. MayVote made.term_length known (subjects.Nullify v.round)) (sym e) may)
note_may made facts n (artifacts.Finalize v) up e may = (up, subst (λ known. MayVote made.term_length known (subjects.Finalize v.proposal)) (sym e) may)
note_may made facts n (artifacts.Certification r good) up e may = (up, ap (λ known. member.is_taken known (member.Judged r.view good)) e ∙ may)
note_may made facts n (artifacts.Notarization c) up e may = up
note_may made facts n (artifacts.Nullification c) up e may = up
note_may made facts n (artifacts.Finalization c) up e may = up

note_up : (n : Member) (a : Artifact) → (happens n (noting a)).up ≡ n.up
note_up n (artifacts.Notarize v) = refl
note_up n (artifacts.Nullify v) = refl
note_up n (artifacts.Finalize v) = refl
note_up n (artifacts.Certification r good) = refl
note_up n (artifacts.Notarization c) = refl
note_up n (artifacts.Nullification c) = refl
note_up n (artifacts.Finalization c) = refl

note_known : (n : Member) (a : Artifact) → (happens n (noting a)).known ≡ n.known ++ memory_of a ∷ []
note_known n (artifacts.Notarize v) = refl
note_known n (artifacts.Nullify v) = refl
note_known n (artifacts.Finalize v) = refl
note_known n (artifacts.Certification r good) = refl
note_known n (artifacts.Notarization c) = refl
note_known n (artifacts.Nullification c) = refl
note_known n (artifacts.Finalization c) = refl

note_box : (n : Member) (a : Artifact) → subjects_of (happens n (noting a)).outbox ≡ subjects_of n.outbox ++ map vote_subject (queued a)
note_box n (artifacts.Notarize v) = map-append _ n.outbox _
note_box n (artifacts.Nullify v) = map-append _ n.outbox _
note_box n (artifacts.Finalize v) = map-append _ n.outbox _
note_box n (artifacts.Certification r good) = sym (append-nil (subjects_of n.outbox))
note_box n (artifacts.Notarization c) = sym (append-nil (subjects_of n.outbox))
note_box n (artifacts.Nullification c) = sym (append-nil (subjects_of n.outbox))
note_box n (artifacts.Finalization c) = sym (append-nil (subjects_of n.outbox))

note_journal : (n : Member) (a : Artifact) → (happens n (noting a)).journal ≡ kept.append (memory_of a) n.journal
note_journal n (artifacts.Notarize v) = refl
note_journal n (artifacts.Nullify v) = refl
note_journal n (artifacts.Finalize v) = refl
note_journal n (artifacts.Certification r good) = refl
note_journal n (artifacts.Notarization c) = refl
note_journal n (artifacts.Nullification c) = refl
note_journal n (artifacts.Finalization c) = refl

-- the record that goes with one more thing known
pub sim_note : (made : Made) (m : Member) (cs : List Call) (facts later : List Fact) (queue : List Vote) (n : ℕ) (a : Artifact) → Sim made m cs facts queue
    → MayNote made facts a → remembered later ≡ remembered facts ++ memory_of a ∷ [] → IsInOrder made later → IsFit made (calls.Append n a)
    → Sim made m (cs ++ calls.Append n a ∷ []) later (queue ++ queued a)
sim_note made m cs facts later queue n a sim may more order fit =
    let now = behind m cs in
    sim_more made m cs facts later queue (queue ++ queued a) sim (calls.Append n a)
    (note_may made facts now a sim.up sim.memory may, tt)
    (note_up now a ∙ sim.up)
    (note_known now a ∙ ap (λ xs. xs ++ memory_of a ∷ []) sim.memory ∙ sym more)
    order
    (note_box now a ∙ ap (λ xs. xs ++ map vote_subject (queued a)) sim.box ∙ sym (map-append vote_subject queue (queued a)))
    fit tt tt

-- ---- the step writes to one section, and then syncs it

pub record Writes (made : Made) (m : Member) (view : ℕ) (cs : List Call) (wrote : Bool) (facts : List Fact) (queue : List Vote) : Type 0 where
  pub sim : Sim made m cs facts queue
  pub only : Only view (behind m cs).journal
  pub unwritten : wrote ≡ false → kept.waiting (behind m cs).journal ≡ []
  pub noted : AllNoted made m view cs queue
  pub earlier : wrote ≡ false → AllKept made m cs queue

pub record Stores (made : Made) (m : Member) (cs : List Call) (facts : List Fact) (queue : List Vote) : Type 0 where
  pub sim : Sim made m cs facts queue
  pub stored : kept.waiting (behind m cs).journal ≡ []
  pub kept : AllKept made m cs queue

pub writes_known : (made : Made) (m : Member) (view : ℕ) (cs : List Call) (wrote : Bool) (facts later : List Fact) (queue : List Vote) → SameMemory made facts later
    → Writes made m view cs wrote facts queue → Writes made m view cs wrote later queue
writes_known made m view cs wrote facts later queue same w =
    record { sim = sim_known made m cs facts later queue same w.sim; only = w.only; unwritten = w.unwritten; noted = w.noted; earlier = w.earlier }

pub writes_plain : (made : Made) (m : Member) (view : ℕ) (cs : List Call) (wrote : Bool) (facts : List Fact) (queue : List Vote) (c : Call) → IsPlain c
    → Writes made m view cs wrote facts queue → Writes made m view (cs ++ c ∷ []) wrote facts queue
writes_plain made m view cs wrote facts queue c p w =
    let same = plain_behind m cs c p in
    record {
      sim = sim_plain made m cs facts queue c p w.sim;
      only = subst (λ (n : Member). Only view n.journal) (sym same) w.only;
      unwritten = λ e. ap (λ (n : Member). kept.waiting n.journal) same ∙ w.unwritten e;
      noted = noted_more made m view cs c queue w.noted;
      earlier = λ e. kept_more made m cs c queue (w.earlier e);
    }

fit_view : (made : Made) (n : ℕ) (a : Artifact) → IsFit made (calls.Append n a) → (artifact_round a).view ≡ n
fit_view made n (artifacts.Nullify v) h = h.0
fit_view made n (artifacts.Notarize v) h = h
fit_view made n (artifacts.Finalize v) h = h
fit_view made n (artifacts.Notarization v) h = h
fit_view made n (artifacts.Nullification v) h = h
fit_view made n (artifacts.Finalization v) h = h
fit_view made n (artifacts.Certification r good) h = h

-- own votes
abbrev pub AllOwn : Made → List Vote → Type 0
AllOwn made [] = Unit {0}
AllOwn made (v ∷ rest) = IsOwn made v × AllOwn made rest

-- the vote of the record that is appended now
noted_now : (made : Made) (m : Member) (view : ℕ) (cs : List Call) (n : ℕ) (a : Artifact) → n ≡ view → (artifact_round a).view ≡ n → AllOwn made (queued a) → AllNoted made m view (cs ++ calls.Append n a ∷ []) (queued a)
noted_now made m view cs n (artifacts.Notarize v) here fit own = ((inr (record { before = cs; behind = []; place = ap (λ k. cs ++ calls.Append k (artifacts.Notarize v) ∷ []) (sym fit) }, fit ∙ here), own.0), tt)
noted_now made m view cs n (artifacts.Nullify v) here fit own = ((inr (record { before = cs; behind = []; place = ap (λ k. cs ++ calls.Append k (artifacts.Nullify v) ∷ []) (sym fit) }, fit ∙ here), own.0), tt)
noted_now made m view cs n (artifacts.Finalize v) here fit own = ((inr (record { before = cs; behind = []; place = ap (λ k. cs ++ calls.Append k (artifacts.Finalize v) ∷ []) (sym fit) }, fit ∙ here), own.0), tt)
noted_now made m view cs n (artifacts.Notarization c) here fit own = tt
noted_now made m view cs n (artifacts.Nullification c) here fit own = tt
noted_now made m view cs n (artifacts.Finalization c) here fit own = tt
noted_now made m view cs n (artifacts.Certification r good) here fit own = tt

pub writes_note : (made : Made) (m : Member) (view : ℕ) (cs : List Call) (wrote : Bool) (facts later : List Fact) (queue : List Vote) (n : ℕ) (a : Artifact)
    → Writes made m view cs wrote facts queue → n ≡ view
    → MayNote made facts a → remembered later ≡ remembered facts ++ memory_of a ∷ [] → IsInOrder made later → IsFit made (calls.Append n a) → AllOwn made (queued a)
    → Writes made m view (cs ++ calls.Append n a ∷ []) true later (queue ++ queued a)
writes_note made m view cs wrote facts later queue n a w here may more order fit own =
    record {
      sim = sim_note made m cs facts later queue n a w.sim may more order fit;
      only = subst (Only view) (sym (ap (λ (x : Member). x.journal) (behind-push m cs (calls.Append n a)) ∙ note_journal (behind m cs) a))
          (only_append view (memory_of a) (behind m cs).journal (memory_view a ∙ fit_view made n a fit ∙ here) w.only);
      unwritten = λ e. cc;
      noted = AllNoted-append made m view (cs ++ calls.Append n a ∷ []) queue (queued a) (noted_more made m view cs (calls.Append n a) queue w.noted) (noted_now made m view cs n a here (fit_view made n a fit) own);
      earlier = λ e. cc;
    }

pub stores_known : (made : Made) (m : Member) (cs : List Call) (facts later : List Fact) (queue : List Vote) → SameMemory made facts later
    → Stores made m cs facts queue → Stores made m cs later queue
stores_known made m cs facts later queue same s = record { sim = sim_known made m cs facts later queue same s.sim; stored = s.stored; kept = s.kept }

pub stores_plain : (made : Made) (m : Member) (cs : List Call) (facts : List Fact) (queue : List Vote) (c : Call) → IsPlain c
    → Stores made m cs facts queue → Stores made m (cs ++ c ∷ []) facts queue
stores_plain made m cs facts queue c p s =
    record { sim = sim_plain made m cs facts queue c p s.sim; stored = ap (λ (n : Member). kept.waiting n.journal) (plain_behind m cs c p) ∙ s.stored; kept = kept_more made m cs c queue s.kept }

pub writes_sync : (made : Made) (m : Member) (view : ℕ) (cs : List Call) (wrote : Bool) (facts : List Fact) (queue : List Vote)
    → Writes made m view cs wrote facts queue → Stores made m (cs ++ calls.Sync view ∷ []) facts queue
writes_sync made m view cs wrote facts queue w =
    let sim = w.sim in
    record {
      sim = sim_more made m cs facts facts queue queue sim (calls.Sync view) (sim.up, tt) sim.up sim.memory sim.order sim.box tt tt tt;
      stored = ap (λ (n : Member). kept.waiting n.journal) (behind-push m cs (calls.Sync view)) ∙ only_sync view (behind m cs).journal w.only;
      kept = all_synced made m view cs queue w.noted;
    }

-- ---- a vote goes out

sent_box : (n : Member) (box : List Sent) (s : Subject) (rest : List Subject) → subjects_of box ≡ s ∷ rest → subjects_of (life.published n box).outbox ≡ rest
sent_box n [] s rest e = cc
sent_box n (x ∷ box) s rest e = cc

sent_up : (n : Member) (box : List Sent) → (life.published n box).up ≡ n.up
sent_up n [] = refl
sent_up n (x ∷ box) = refl

sent_known : (n : Member) (box : List Sent) → (life.published n box).known ≡ n.known
sent_known n [] = refl
sent_known n (x ∷ box) = refl

sent_journal : (n : Member) (box : List Sent) → (life.published n box).journal ≡ n.journal
sent_journal n [] = refl
sent_journal n (x ∷ box) = refl

pub stores_send : (made : Made) (m : Member) (cs : List Call) (facts : List Fact) (queue : List Vote) (v : Vote)
    → Stores made m cs facts (v ∷ queue) → Stores made m (cs ++ calls.Send channels.Vote recipients.All (format.vote.spelling v) ∷ []) facts queue
stores_send made m cs facts queue v s =
    let sim = s.sim in
    let now = behind m cs in
    let c = calls.Send channels.Vote recipients.All (format.vote.spelling v) in
    record {
      sim = sim_more made m cs facts facts (v ∷ queue) queue sim c
          ((sim.up, s.stored), tt) (sent_up now now.outbox ∙ sim.up) (sent_known now now.outbox ∙ sim.memory) sim.order
          (sent_box now now.outbox (vote_subject v) (map vote_subject queue) sim.box) tt (v, map vote_subject queue, refl, sim.box) (v, refl, s.kept.0);
      stored = ap (λ (n : Member). kept.waiting n.journal) (behind-push m cs c) ∙ ap kept.waiting (sent_journal now now.outbox) ∙ s.stored;
      kept = kept_more made m cs c queue s.kept.1;
    }

-- ---- a prune

pub stores_prune : (made : Made) (m : Member) (cs : List Call) (facts : List Fact) (queue : List Vote) (least : ℕ)
    → least ≤ member.last_finalized (remembered facts)
    → Stores made m cs facts queue → Stores made m (cs ++ calls.Prune least ∷ []) facts queue
stores_prune made m cs facts queue least low s =
    let sim = s.sim in
    let now = behind m cs in
    record {
      sim = sim_more made m cs facts facts queue queue sim (calls.Prune least)
          ((sim.up, s.stored, subst (λ known. least ≤ member.last_finalized known) (sym sim.memory) low), tt) sim.up sim.memory sim.order sim.box tt tt tt;
      stored = ap (λ (n : Member). kept.waiting n.journal) (behind-push m cs (calls.Prune least)) ∙ prune_waiting least now.journal s.stored;
      kept = kept_more made m cs (calls.Prune least) queue s.kept;
    }
