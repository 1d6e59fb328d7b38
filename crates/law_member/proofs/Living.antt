-- A list of a voter's calls, lived by the member call by call.
use Rattle.std.proofs.Common.{◌≡◌, ℕ, zero, suc, List, [], ◌∷◌, ◌++◌, ◌⊎◌, map, take, drop, Contains, refl, sym, ap, ◌∙◌, subst, inl, inr, append-nil, append_assoc, take-append-drop}
use Rattle.std.proofs.lemmas.List.{map-append}
use Rattle.std.proofs.lemmas.List.Elements.{Contains-append_left, Contains-append_right, Contains-append_cases}
use Rattle.simplex_values.specs.declared.plan.Channel.TheVariants as channels
use Rattle.simplex_values.specs.declared.proposal.Subject.{Subject}
use Rattle.simplex_values.specs.declared.proposal.Subject.TheVariants as subjects
use Rattle.simplex_wire.specs.declared.vote.Vote.{Vote}
use Rattle.simplex_wire.specs.declared.vote.Nullify.{Nullify}
use Rattle.simplex_wire.specs.declared.artifact.Artifact.{Artifact}
use Rattle.simplex_wire.specs.declared.artifact.Artifact.TheVariants as artifacts
use Rattle.simplex_wire.specs.declared.certificate.Certificate.TheVariants as certificates
use Rattle.simplex_wire.specs.Fields.{artifact_round, vote_subject}
use Rattle.simplex_wire.specs.Message as format
use Rattle.simplex_journal.specs.Journal.{Section}
use Rattle.simplex_journal.specs.Contents.{IsRising}
use Rattle.simplex_journal.proofs.Contents.{replayed-synced_at}
use Rattle.simplex_journal.proofs.Records.{replayed-appended, Contains-pruned}
use Rattle.simplex_journal.proofs.Rising.{numbers-synced_at, IsRising-appended, IsRising-pruned}
use Rattle.simplex_messages.specs.declared.call.Call.{Call}
use Rattle.simplex_messages.specs.declared.call.Call.TheVariants as calls
use Rattle.model_rules.specs.Known.{Made}
use Rattle.model_steps.specs.Performed.{after_call, after_calls}
use Rattle.law_agreement.specs.World.{Sent}
use Rattle.law_agreement.specs.Artifacts as member
use Rattle.law_agreement.specs.Journal as kept
use Rattle.law_agreement.specs.Member as life
use Rattle.law_agreement.specs.Member.{Member, happens, run, IsLegal}
use Rattle.law_agreement.proofs.CallFacts.{run-append, brought-append}
use Rattle.law_agreement.proofs.ListFacts.{not_in_empty, Contains-here, Contains-there, Contains-cons_cases}
use Rattle.law_member.specs.Life.{statement_of, memory_of, journal_of, certificate_in, taken, vote_in, voted, AreSent, AreOwn}
use Rattle.law_member.proofs.Journals.{append_is, sync_is, prune_is}

-- ---- what the member does as the voter makes a call

abbrev pub noting : Artifact → life.Call
noting (artifacts.Notarize v) = life.Vote (subjects.Notarize v.proposal)
noting (artifacts.Nullify v) = life.Vote (subjects.Nullify v.round)
noting (artifacts.Finalize v) = life.Vote (subjects.Finalize v.proposal)
noting (artifacts.Notarization c) = life.Take (statement_of (certificates.Notarization c))
noting (artifacts.Nullification c) = life.Take (statement_of (certificates.Nullification c))
noting (artifacts.Finalization c) = life.Take (statement_of (certificates.Finalization c))
noting (artifacts.Certification round good) = life.Judge round.view good

abbrev pub doing_of : Call → List life.Call
doing_of (calls.Append section artifact) = noting artifact ∷ []
doing_of (calls.Sync section) = life.Sync section ∷ []
doing_of (calls.Prune least) = life.Prune least ∷ []
doing_of (calls.Send channels.Vote recipients bytes) = life.Send ∷ []
doing_of _ = []

abbrev pub doings : List Call → List life.Call
doings [] = []
doings (c ∷ rest) = doing_of c ++ doings rest

pub doings-append : (xs ys : List Call) → doings (xs ++ ys) ≡ doings xs ++ doings ys
doings-append [] ys = refl
doings-append (c ∷ xs) ys = ap (λ zs. doing_of c ++ zs) (doings-append xs ys) ∙ sym (append_assoc (doing_of c) (doings xs) (doings ys))

-- the member behind these calls
abbrev pub behind : Member → List Call → Member
behind m made = run m (doings made)

pub behind-append : (m : Member) (xs ys : List Call) → behind m (xs ++ ys) ≡ behind (behind m xs) ys
behind-append m xs ys = ap (run m) (doings-append xs ys) ∙ run-append m (doings xs) (doings ys)

pub behind-cons : (m : Member) (c : Call) (rest : List Call) → behind m (c ∷ rest) ≡ behind (run m (doing_of c)) rest
behind-cons m c rest = run-append m (doing_of c) (doings rest)

IsLegal-front : (length : ℕ) (m : Member) (xs ys : List life.Call) → IsLegal length m (xs ++ ys) → IsLegal length m xs
IsLegal-front length m [] ys h = tt
IsLegal-front length m (x ∷ xs) ys h = (h.0, IsLegal-front length (happens m x) xs ys h.1)

IsLegal-rest : (length : ℕ) (m : Member) (xs ys : List life.Call) → IsLegal length m (xs ++ ys) → IsLegal length (run m xs) ys
IsLegal-rest length m [] ys h = h
IsLegal-rest length m (x ∷ xs) ys h = IsLegal-rest length (happens m x) xs ys h.1

pub legal_take : (length : ℕ) (m : Member) (k : ℕ) (made : List Call) → IsLegal length m (doings made) → IsLegal length m (doings (take k made))
legal_take length m k made h =
    IsLegal-front length m (doings (take k made)) (doings (drop k made))
    (subst (IsLegal length m) (ap doings (sym (take-append-drop k made)) ∙ doings-append (take k made) (drop k made)) h)

-- ---- the journal

-- an append stands in the section of its record's view, and an own nullify is of the member's epoch
abbrev pub IsFit : Made → Call → Type 0
IsFit made (calls.Append section (artifacts.Nullify v)) = (v.round.view ≡ section) × (v.round.epoch ≡ made.epoch)
IsFit made (calls.Append section artifact) = (artifact_round artifact).view ≡ section
IsFit made _ = Unit {0}

abbrev pub AreFit : Made → List Call → Type 0
AreFit made [] = Unit {0}
AreFit made (c ∷ rest) = IsFit made c × AreFit made rest

pub AreFit-append : (made : Made) (xs ys : List Call) → AreFit made xs → AreFit made ys → AreFit made (xs ++ ys)
AreFit-append made [] ys h k = k
AreFit-append made (x ∷ xs) ys h k = (h.0, AreFit-append made xs ys h.1 k)

pub AreFit-take : (made : Made) (n : ℕ) (xs : List Call) → AreFit made xs → AreFit made (take n xs)
AreFit-take made zero xs h = tt
AreFit-take made (suc n) [] h = tt
AreFit-take made (suc n) (x ∷ xs) h = (h.0, AreFit-take made n xs h.1)

stands_at : (made : Made) (n : ℕ) (a : Artifact) → IsFit made (calls.Append n a) → (artifact_round a).view ≡ n
stands_at made n (artifacts.Nullify v) h = h.0
stands_at made n (artifacts.Notarize v) h = h
stands_at made n (artifacts.Finalize v) h = h
stands_at made n (artifacts.Notarization v) h = h
stands_at made n (artifacts.Nullification v) h = h
stands_at made n (artifacts.Finalization v) h = h
stands_at made n (artifacts.Certification r good) h = h

note_journal : (m : Member) (a : Artifact) → (happens m (noting a)).journal ≡ kept.append (memory_of a) m.journal
note_journal m (artifacts.Nullify v) = refl
note_journal m (artifacts.Notarize v) = refl
note_journal m (artifacts.Finalize v) = refl
note_journal m (artifacts.Notarization v) = refl
note_journal m (artifacts.Nullification v) = refl
note_journal m (artifacts.Finalization v) = refl
note_journal m (artifacts.Certification r good) = refl

published_journal : (m : Member) (box : List Sent) → (life.published m box).journal ≡ m.journal
published_journal m [] = refl
published_journal m (s ∷ rest) = refl

journal_after : (made : Made) (c : Call) (js : List Section) (m : Member) → IsFit made c → IsRising js → m.journal ≡ journal_of js
    → (run m (doing_of c)).journal ≡ journal_of (after_call c js)
journal_after made (calls.Append n a) js m fit rising same =
    note_journal m a ∙ ap (kept.append (memory_of a)) same ∙ sym (append_is n a js (stands_at made n a fit))
journal_after made (calls.Sync n) js m fit rising same = ap (kept.sync n) same ∙ sym (sync_is n js rising)
journal_after made (calls.Prune least) js m fit rising same = ap (kept.prune least) same ∙ sym (prune_is least js)
journal_after made (calls.Send channels.Vote to bytes) js m fit rising same = published_journal m m.outbox ∙ same
journal_after made (calls.Send channels.Certificate to bytes) js m fit rising same = same
journal_after made (calls.Send channels.Resolver to bytes) js m fit rising same = same
journal_after made (calls.Report activity) js m fit rising same = same
journal_after made (calls.Relay payload plan) js m fit rising same = same
journal_after made (calls.Block who why) js m fit rising same = same

rising_after : (c : Call) (js : List Section) → IsRising js → IsRising (after_call c js)
rising_after (calls.Append n a) js h = IsRising-appended n a js h
rising_after (calls.Sync n) js h = rw (numbers-synced_at n js) h
rising_after (calls.Prune least) js h = IsRising-pruned least js h
rising_after _ js h = h

pub rising_afters : (made : List Call) (js : List Section) → IsRising js → IsRising (after_calls made js)
unfolding after_calls
rising_afters [] js h = h
rising_afters (c ∷ rest) js h = rising_afters rest (after_call c js) (rising_after c js h)

pub journals_after : (made : Made) (cs : List Call) (js : List Section) (m : Member) → AreFit made cs → IsRising js → m.journal ≡ journal_of js
    → (behind m cs).journal ≡ journal_of (after_calls cs js)
unfolding after_calls
journals_after made [] js m fit rising same = same
journals_after made (c ∷ rest) js m fit rising same =
    ap (λ (x : Member). x.journal) (behind-cons m c rest)
    ∙ journals_after made rest (after_call c js) (run m (doing_of c)) fit.1 (rising_after c js rising) (journal_after made c js m fit.0 rising same)

own_append : (made : Made) (n : ℕ) (a : Artifact) (v : Nullify) → IsFit made (calls.Append n a) → a ≡ artifacts.Nullify v → v.round.epoch ≡ made.epoch
own_append made n a v fit e = (subst (λ (x : Artifact). IsFit made (calls.Append n x)) e fit).1

own_after : (made : Made) (c : Call) (js : List Section) → IsFit made c → AreOwn made js → AreOwn made (after_call c js)
own_after made (calls.Append n a) js fit own v c =
    let split = replayed-appended n a js in
    elim (Contains-append_cases split.0 (a ∷ split.1) (artifacts.Nullify v) (subst (λ (xs : List Artifact). Contains xs (artifacts.Nullify v)) split.3 c)) [
      | inl before ↦ own v (subst (λ (xs : List Artifact). Contains xs (artifacts.Nullify v)) (sym split.2) (Contains-append_left split.0 split.1 (artifacts.Nullify v) before))
      | inr there ↦ elim (Contains-cons_cases a split.1 (artifacts.Nullify v) there) [
        | inl same ↦ own_append made n a v fit same
        | inr after ↦ own v (subst (λ (xs : List Artifact). Contains xs (artifacts.Nullify v)) (sym split.2) (Contains-append_right split.0 split.1 (artifacts.Nullify v) after))
      ]
    ]
own_after made (calls.Sync n) js fit own v c = own v (subst (λ (xs : List Artifact). Contains xs (artifacts.Nullify v)) (replayed-synced_at n js) c)
own_after made (calls.Prune least) js fit own v c = own v (Contains-pruned least js (artifacts.Nullify v) c)
own_after made _ js fit own v c = own v c

pub own_afters : (made : Made) (cs : List Call) (js : List Section) → AreFit made cs → AreOwn made js → AreOwn made (after_calls cs js)
unfolding after_calls
own_afters made [] js fit own = own
own_afters made (c ∷ rest) js fit own = own_afters made rest (after_call c js) fit.1 (own_after made c js fit.0 own)

-- ---- what is brought

noted_certificates : (a : Artifact) → life.brought (noting a ∷ []) ≡ certificate_in a
noted_certificates (artifacts.Nullify v) = refl
noted_certificates (artifacts.Notarize v) = refl
noted_certificates (artifacts.Finalize v) = refl
noted_certificates (artifacts.Notarization v) = refl
noted_certificates (artifacts.Nullification v) = refl
noted_certificates (artifacts.Finalization v) = refl
noted_certificates (artifacts.Certification r good) = refl

pub brought_is : (cs : List Call) → life.brought (doings cs) ≡ taken cs
unfolding taken
brought_is [] = refl
brought_is (calls.Append n a ∷ rest) = brought-append (noting a ∷ []) (doings rest) ∙ cc (noted_certificates a, brought_is rest)
brought_is (calls.Sync n ∷ rest) = brought_is rest
brought_is (calls.Prune least ∷ rest) = brought_is rest
brought_is (calls.Send channels.Vote to bytes ∷ rest) = brought_is rest
brought_is (calls.Send channels.Certificate to bytes ∷ rest) = brought_is rest
brought_is (calls.Send channels.Resolver to bytes ∷ rest) = brought_is rest
brought_is (calls.Report activity ∷ rest) = brought_is rest
brought_is (calls.Relay payload plan ∷ rest) = brought_is rest
brought_is (calls.Block who why ∷ rest) = brought_is rest

-- ---- what is sent

abbrev pub subjects_of : List Sent → List Subject
subjects_of sent = map (λ (s : Sent). s.subject) sent

-- what goes out on the vote channel is the vote that the member sends next
abbrev pub SendsNext : Member → Call → Type 0
SendsNext m (calls.Send channels.Vote to bytes) =
    (v : Vote) × (others : List Subject) × (bytes ≡ format.vote.spelling v) × (subjects_of m.outbox ≡ vote_subject v ∷ others)
SendsNext m _ = Unit {0}

abbrev pub Sends : Member → List Call → Type 0
Sends m [] = Unit {0}
Sends m (c ∷ rest) = SendsNext m c × Sends (run m (doing_of c)) rest

pub Sends-append : (m : Member) (xs ys : List Call) → Sends m xs → Sends (behind m xs) ys → Sends m (xs ++ ys)
Sends-append m [] ys h k = k
Sends-append m (x ∷ xs) ys h k = (h.0, Sends-append (run m (doing_of x)) xs ys h.1 (subst (λ (n : Member). Sends n ys) (behind-cons m x xs) k))

pub Sends-take : (m : Member) (n : ℕ) (xs : List Call) → Sends m xs → Sends m (take n xs)
Sends-take m zero xs h = tt
Sends-take m (suc n) [] h = tt
Sends-take m (suc n) (x ∷ xs) h = (h.0, Sends-take (run m (doing_of x)) n xs h.1)

note_sent : (m : Member) (a : Artifact) → (happens m (noting a)).sent ≡ m.sent
note_sent m (artifacts.Nullify v) = refl
note_sent m (artifacts.Notarize v) = refl
note_sent m (artifacts.Finalize v) = refl
note_sent m (artifacts.Notarization v) = refl
note_sent m (artifacts.Nullification v) = refl
note_sent m (artifacts.Finalization v) = refl
note_sent m (artifacts.Certification r good) = refl

-- what the member sends in these calls
pub record Out (m : Member) (cs : List Call) : Type 0 where
  pub sent : List Sent
  pub sends : (behind m cs).sent ≡ m.sent ++ sent
  pub votes : AreSent cs (subjects_of sent)
  pub from : (s : Subject) → Contains (subjects_of sent) s → Contains (subjects_of m.outbox) s ⊎ Contains (voted cs) s

pub first_out : (m : Member) (box : List Sent) (s : Subject) (others : List Subject) → m.outbox ≡ box → subjects_of box ≡ s ∷ others
    → (x : Sent) × (x.subject ≡ s) × ((life.published m box).sent ≡ m.sent ++ x ∷ [])
first_out m [] s others e h = cc
first_out m (x ∷ rest) s others e h = (x, cc, refl)

quiet_out : (m n : Member) (rest : List Call) (o : Out n rest) → n.sent ≡ m.sent → (behind n rest).sent ≡ m.sent ++ o.sent
quiet_out m n rest o e = o.sends ∙ ap (λ xs. xs ++ o.sent) e

-- one more vote in the queue
queued_box : (m : Member) (t s : Subject) → Contains (subjects_of (life.queued m t).outbox) s → Contains (subjects_of m.outbox) s ⊎ Contains (t ∷ []) s
queued_box m t s k =
    let last : Sent = record { subject = t; known = member.certificates m.known } in
    Contains-append_cases (subjects_of m.outbox) (t ∷ []) s (subst (λ xs. Contains xs s) (map-append (λ (x : Sent). x.subject) m.outbox (last ∷ [])) k)

-- what a record adds to the queue
note_box : (m : Member) (a : Artifact) (s : Subject) → Contains (subjects_of (happens m (noting a)).outbox) s → Contains (subjects_of m.outbox) s ⊎ Contains (vote_in a) s
note_box m (artifacts.Nullify v) s k = queued_box m (subjects.Nullify v.round) s k
note_box m (artifacts.Notarize v) s k = queued_box m (subjects.Notarize v.proposal) s k
note_box m (artifacts.Finalize v) s k = queued_box m (subjects.Finalize v.proposal) s k
note_box m (artifacts.Notarization v) s k = inl k
note_box m (artifacts.Nullification v) s k = inl k
note_box m (artifacts.Finalization v) s k = inl k
note_box m (artifacts.Certification r good) s k = inl k

published_box : (m : Member) (box : List Sent) (s : Subject) → m.outbox ≡ box → Contains (subjects_of (life.published m box).outbox) s → Contains (subjects_of m.outbox) s
published_box m [] s e k = k
published_box m (x ∷ rest) s e k = subst (λ xs. Contains (subjects_of xs) s) (sym e) (Contains-there x.subject (subjects_of rest) s k)

pub out_of : (m : Member) (cs : List Call) → Sends m cs → Out m cs
unfolding AreSent voted
out_of m [] h = record { sent = []; sends = sym (append-nil m.sent); votes = refl; from = λ s k. inl (absurd (not_in_empty s k)) }
out_of m (calls.Append n a ∷ rest) h =
    let o = out_of (happens m (noting a)) rest h.1 in
    record {
      sent = o.sent;
      sends = quiet_out m (happens m (noting a)) rest o (note_sent m a);
      votes = o.votes;
      from = λ s k. elim (o.from s k) [
        | inl b ↦ elim (note_box m a s b) [ inl old ↦ inl old | inr new ↦ inr (Contains-append_left (vote_in a) (voted rest) s new) ]
        | inr v ↦ inr (Contains-append_right (vote_in a) (voted rest) s v)
      ];
    }
out_of m (calls.Sync n ∷ rest) h = let o = out_of (happens m (life.Sync n)) rest h.1 in record { sent = o.sent; sends = o.sends; votes = o.votes; from = o.from }
out_of m (calls.Prune n ∷ rest) h = let o = out_of (happens m (life.Prune n)) rest h.1 in record { sent = o.sent; sends = o.sends; votes = o.votes; from = o.from }
out_of m (calls.Send channels.Vote to bytes ∷ rest) h =
    let next = h.0 in
    let x = first_out m m.outbox (vote_subject next.0) next.1 refl next.3 in
    let o = out_of (happens m life.Send) rest h.1 in
    record {
      sent = x.0 ∷ o.sent;
      sends = o.sends ∙ ap (λ xs. xs ++ o.sent) x.2 ∙ append_assoc m.sent (x.0 ∷ []) o.sent;
      votes = (next.0, subjects_of o.sent, next.2, ap (λ (s : Subject). s ∷ subjects_of o.sent) x.1, o.votes);
      from = λ s k. elim (Contains-cons_cases x.0.subject (subjects_of o.sent) s k) [
        | inl e ↦ inl (subst (λ xs. Contains xs s) (sym next.3) (subst (Contains (vote_subject next.0 ∷ next.1)) (sym x.1 ∙ e) (Contains-here (vote_subject next.0) next.1)))
        | inr r ↦ elim (o.from s r) [ inl b ↦ inl (published_box m m.outbox s refl b) | inr v ↦ inr v ]
      ];
    }
out_of m (calls.Send channels.Certificate to bytes ∷ rest) h = let o = out_of m rest h.1 in record { sent = o.sent; sends = o.sends; votes = o.votes; from = o.from }
out_of m (calls.Send channels.Resolver to bytes ∷ rest) h = let o = out_of m rest h.1 in record { sent = o.sent; sends = o.sends; votes = o.votes; from = o.from }
out_of m (calls.Report activity ∷ rest) h = let o = out_of m rest h.1 in record { sent = o.sent; sends = o.sends; votes = o.votes; from = o.from }
out_of m (calls.Relay payload plan ∷ rest) h = let o = out_of m rest h.1 in record { sent = o.sent; sends = o.sends; votes = o.votes; from = o.from }
out_of m (calls.Block who why ∷ rest) h = let o = out_of m rest h.1 in record { sent = o.sent; sends = o.sends; votes = o.votes; from = o.from }
