-- What the tests of forged attestations say.
use Rattle.std.proofs.Common.{◌≡◌, ℕ, ◌&&◌, not, Bool, true, false, List, [], ◌∷◌, ◌++◌, All, Contains, filter, flat_map, filter_map, find, inl, inr, Option, Some, None, Result, Ok, Err, is_ok, IfOk, refl, sym, ap, ◌∙◌, subst, if◌then◌else◌}
use Rattle.std.specs.List.{cons_option}
use Rattle.std.specs.Result.{result_ok}
use Rattle.std.proofs.lemmas.List.Elements.{All-nil, All-cons, All-head, All-tail, All-append, Contains-append_left, Contains-append_right, Contains-append_cases}
use Rattle.std.proofs.lemmas.List.Folds.{Any-from_list_any, list_any-from_Any}
use Rattle.law_agreement.proofs.ListFacts.{not_in_empty, Contains-here, Contains-there, Contains-cons_cases, All-front}
use Rattle.simplex_values.specs.declared.plan.Channel.{Channel}
use Rattle.simplex_values.specs.declared.plan.Channel.TheVariants as channels
use Rattle.simplex_values.specs.declared.proposal.Subject.{Subject}
use Rattle.simplex_values.specs.declared.proposal.Subject.TheVariants as subjects
use Rattle.simplex_wire.specs.declared.error.DecodeError.{DecodeError}
use Rattle.simplex_wire.specs.declared.vote.Vote.{Vote}
use Rattle.simplex_wire.specs.Fields.{vote_subject}
use Rattle.simplex_wire.specs.Format.{whole}
use Rattle.simplex_wire.specs.Message as format
use Rattle.simplex_types.specs.Keyed.{keyed_verifies}
use Rattle.simplex_round.specs.Votes.{is_same_subject}
use Rattle.simplex_transcript.specs.declared.entry.Entry.{Entry}
use Rattle.simplex_transcript.specs.declared.entry.Packet.{Packet}
use Rattle.simplex_transcript.specs.declared.refusal.RunError.{RunError}
use Rattle.simplex_transcript.specs.declared.setup.Setup.{Setup}
use Rattle.model_run.specs.Forged.{Signed, signed_in, is_forged, signed_by_faulty, first_forged, unless, unless_forged}
use Rattle.model_run.specs.Kinds.{members_of, node_of, is_honest, is_faulty_member, is_same_node}
use Rattle.model_run.specs.Life.{Noted}
use Rattle.model_run.specs.SentVotes.{is_for_votes, vote_sent, sent_votes, has_sent}
use Rattle.law_run.specs.PacketForging.{HasSent, IsForged, ForgesNothing}
use Rattle.law_run.proofs.Tests.{same_node, same_self}
use Rattle.law_run.proofs.ReportedFloors.{same_rounds, same_proposals, self_round, self_proposal}

-- ---- lists

module _ {A B : Type 0} where
  in_flat : (f : A → List B) (xs : List A) (x : A) (y : B) → Contains xs x → Contains (f x) y → Contains (flat_map f xs) y
  in_flat f [] x y k h = absurd (not_in_empty x k)
  in_flat f (z ∷ xs) x y k h =
      elim (Contains-cons_cases z xs x k) [
        | inl e ↦ Contains-append_left (f z) (flat_map f xs) y (subst (λ w. Contains (f w) y) (sym e) h)
        | inr r ↦ Contains-append_right (f z) (flat_map f xs) y (in_flat f xs x y r h)
      ]

  of_flat : (f : A → List B) (xs : List A) (y : B) → Contains (flat_map f xs) y → (x : A) × Contains xs x × Contains (f x) y
  of_flat f [] y k = absurd (not_in_empty y k)
  of_flat f (x ∷ xs) y k =
      elim (Contains-append_cases (f x) (flat_map f xs) y k) [
        | inl here ↦ (x, Contains-here x xs, here)
        | inr there ↦ (let later = of_flat f xs y there in (later.0, Contains-there x xs later.0 later.1, later.2))
      ]

  in_those : (f : A → Option B) (xs : List A) (x : A) (y : B) → Contains xs x → f x ≡ Some y → Contains (filter_map f xs) y
  in_those f [] x y k h = absurd (not_in_empty x k)
  in_those f (z ∷ xs) x y k h =
      elim (Contains-cons_cases z xs x k) [
        | inl e ↦ subst (λ o. Contains (cons_option o (filter_map f xs)) y) (sym (ap f e ∙ h)) (Contains-here y (filter_map f xs))
        | inr r ↦ behind (f z) (in_those f xs x y r h)
      ]
    where
      behind : (o : Option B) → Contains (filter_map f xs) y → Contains (cons_option o (filter_map f xs)) y
      behind None c = c
      behind (Some b) c = Contains-there b (filter_map f xs) y c

  of_those : (f : A → Option B) (xs : List A) (y : B) → Contains (filter_map f xs) y → (x : A) × Contains xs x × (f x ≡ Some y)
  of_those f [] y k = absurd (not_in_empty y k)
  of_those f (x ∷ xs) y k = by (f x) refl k (of_those f xs y)
    where
      later : (z : A) × Contains xs z × (f z ≡ Some y) → (z : A) × Contains (x ∷ xs) z × (f z ≡ Some y)
      later w = (w.0, Contains-there x xs w.0 w.1, w.2)

      by : (o : Option B) → f x ≡ o → Contains (cons_option o (filter_map f xs)) y → (Contains (filter_map f xs) y → (z : A) × Contains xs z × (f z ≡ Some y))
          → (z : A) × Contains (x ∷ xs) z × (f z ≡ Some y)
      by None e c old = later (old c)
      by (Some b) e c old =
          elim (Contains-cons_cases b (filter_map f xs) y c) [
            | inl same ↦ (x, Contains-here x xs, e ∙ ap Some same)
            | inr there ↦ later (old there)
          ]

All-back : {A : Type 0} (P : A → Type 0) (xs ys : List A) → All P (xs ++ ys) → All P ys
All-back P [] ys h = h
All-back P (x ∷ xs) ys h = All-back P xs ys (All-tail P x (xs ++ ys) h)

module _ {A : Type 0} where
  -- nothing is found exactly where each fails
  all_fail : (test : A → Bool) (xs : List A) → find test xs ≡ None → All (λ x. test x ≡ false) xs
  all_fail test [] e = All-nil (λ x. test x ≡ false)
  all_fail test (x ∷ xs) e = by (test x) refl e (all_fail test xs)
    where
      by : (b : Bool) → test x ≡ b → (if b then Some x else find test xs) ≡ None → (find test xs ≡ None → All (λ y. test y ≡ false) xs) → All (λ y. test y ≡ false) (x ∷ xs)
      by true h k old = cc
      by false h k old = All-cons (λ y. test y ≡ false) x xs h (old k)

  none_found : (test : A → Bool) (xs : List A) → All (λ x. test x ≡ false) xs → find test xs ≡ None
  none_found test [] h = refl
  none_found test (x ∷ xs) h = rw (All-head (λ y. test y ≡ false) x xs h) (none_found test xs (All-tail (λ y. test y ≡ false) x xs h))

-- what is said of what stands in some of the elements
module _ {A B : Type 0} (P : B → Type 0) (test : A → Bool) (f : A → List B) where
  each_of : (xs : List A) → All P (flat_map f (filter test xs)) → All (λ x. test x ≡ true → All P (f x)) xs
  each_of [] h = All-nil (λ x. test x ≡ true → All P (f x))
  each_of (x ∷ xs) h = by (test x) refl h (each_of xs)
    where
      by : (b : Bool) → test x ≡ b → All P (flat_map f (if b then x ∷ filter test xs else filter test xs))
          → (All P (flat_map f (filter test xs)) → All (λ y. test y ≡ true → All P (f y)) xs) → All (λ y. test y ≡ true → All P (f y)) (x ∷ xs)
      by true e k old =
          All-cons (λ y. test y ≡ true → All P (f y)) x xs (λ _. All-front P (f x) (flat_map f (filter test xs)) k)
          (old (All-back P (f x) (flat_map f (filter test xs)) k))
      by false e k old = All-cons (λ y. test y ≡ true → All P (f y)) x xs (λ t. cc) (old k)

  of_each : (xs : List A) → All (λ x. test x ≡ true → All P (f x)) xs → All P (flat_map f (filter test xs))
  of_each [] h = All-nil P
  of_each (x ∷ xs) h = by (test x) refl (All-head (λ y. test y ≡ true → All P (f y)) x xs h) (of_each xs (All-tail (λ y. test y ≡ true → All P (f y)) x xs h))
    where
      by : (b : Bool) → test x ≡ b → (test x ≡ true → All P (f x)) → All P (flat_map f (filter test xs)) → All P (flat_map f (if b then x ∷ filter test xs else filter test xs))
      by true e k old = All-append P (f x) (flat_map f (filter test xs)) (k e) old
      by false e k old = old

-- ---- votes that were sent

same_subjects : (s t : Subject) → is_same_subject s t ≡ true → s ≡ t
same_subjects (subjects.Notarize p) (subjects.Notarize q) e = ap subjects.Notarize (same_proposals p q e)
same_subjects (subjects.Nullify r) (subjects.Nullify s) e = ap subjects.Nullify (same_rounds r s e)
same_subjects (subjects.Finalize p) (subjects.Finalize q) e = ap subjects.Finalize (same_proposals p q e)
same_subjects (subjects.Notarize p) (subjects.Nullify r) e = absurd (cc)
same_subjects (subjects.Notarize p) (subjects.Finalize q) e = absurd (cc)
same_subjects (subjects.Nullify r) (subjects.Notarize p) e = absurd (cc)
same_subjects (subjects.Nullify r) (subjects.Finalize p) e = absurd (cc)
same_subjects (subjects.Finalize p) (subjects.Notarize q) e = absurd (cc)
same_subjects (subjects.Finalize p) (subjects.Nullify r) e = absurd (cc)

self_subject : (s : Subject) → is_same_subject s s ≡ true
self_subject (subjects.Notarize p) = self_proposal p
self_subject (subjects.Nullify r) = self_round r
self_subject (subjects.Finalize p) = self_proposal p

-- the packet is this vote of the member
record Says (member : ℕ) (p : Packet) (vote : Vote) : Type 0 where
  from : p.from ≡ node_of member
  channel : p.channel ≡ channels.Vote
  says : whole format.vote p.bytes ≡ Ok vote

said : (member : ℕ) (p : Packet) (vote : Vote) → vote_sent member p ≡ Some vote → Says member p vote
said member p vote e = on p.channel refl e
  where
    reading : (r : Result Vote DecodeError) → result_ok r ≡ Some vote → r ≡ Ok vote
    reading (Ok w) h = (let same : w ≡ vote = cc in ap Ok same)
    reading (Err error) h = cc

    by : (b : Bool) → is_same_node p.from (node_of member) ≡ b → p.channel ≡ channels.Vote → (if b then result_ok (whole format.vote p.bytes) else None) ≡ Some vote → Says member p vote
    by true h c k = record { from = same_node p.from (node_of member) h; channel = c; says = reading (whole format.vote p.bytes) k }
    by false h c k = cc

    on : (c : Channel) → p.channel ≡ c → (if is_for_votes c && is_same_node p.from (node_of member) then result_ok (whole format.vote p.bytes) else None) ≡ Some vote → Says member p vote
    on channels.Vote h k = by (is_same_node p.from (node_of member)) refl h k
    on channels.Certificate h k = cc
    on channels.Resolver h k = cc

says_it : (member : ℕ) (p : Packet) (vote : Vote) → p.from ≡ node_of member → p.channel ≡ channels.Vote → whole format.vote p.bytes ≡ Ok vote → vote_sent member p ≡ Some vote
says_it member p vote from channel says = rw channel (rw from (rw (same_self (node_of member)) (rw says refl)))

-- a vote of the entries
abbrev votes_in : ℕ → Noted → List Vote
votes_in member noted = filter_map (vote_sent member) noted.entry.packets

sent_it : (before : List Noted) (member : ℕ) (subject : Subject) (vote : Vote) → HasSent before member vote → vote_subject vote ≡ subject → has_sent before member subject ≡ true
unfolding has_sent sent_votes
sent_it before member subject vote s on =
    let passes : is_same_subject (vote_subject vote) subject ≡ true = subst (λ t. is_same_subject (vote_subject vote) t ≡ true) on (self_subject (vote_subject vote)) in
    let stands = in_flat (votes_in member) before s.noted vote s.stands (in_those (vote_sent member) s.noted.entry.packets s.packet vote s.holds (says_it member s.packet vote s.from s.channel s.says)) in
    list_any-from_Any (λ v. is_same_subject (vote_subject v) subject) (sent_votes before member) (stands.0, vote, stands.1, stands.2, passes)

-- a vote on the subject was sent
abbrev HasVoted : List Noted → ℕ → Subject → Type 0
HasVoted before member subject = (vote : Vote) × HasSent before member vote × (vote_subject vote ≡ subject)

was_sent : (before : List Noted) (member : ℕ) (subject : Subject) → has_sent before member subject ≡ true → HasVoted before member subject
unfolding has_sent sent_votes
was_sent before member subject e =
    let found = Any-from_list_any (λ v. is_same_subject (vote_subject v) subject) (sent_votes before member) e in
    let entry = of_flat (votes_in member) before found.1 (found.0, found.2, found.3) in
    let packet = of_those (vote_sent member) entry.0.entry.packets found.1 entry.2 in
    let s = said member packet.0 found.1 packet.2 in (
      found.1,
      record { noted = entry.0; stands = entry.1; packet = packet.0; holds = packet.1; from = s.from; channel = s.channel; says = s.says },
      same_subjects (vote_subject found.1) subject found.4,
    )

-- ---- what is forged

genuine_if : (setup : Setup) (before : List Noted) (s : Signed) → is_forged setup before s ≡ false → IsForged setup before s → ⊥
unfolding is_forged
genuine_if setup before s e f = by (has_sent before s.attestation.signer s.subject) refl (rw (f.honest, f.verifies) at e)
  where
    by : (b : Bool) → has_sent before s.attestation.signer s.subject ≡ b → not b ≡ false → ⊥
    by true h k = (let voted = was_sent before s.attestation.signer s.subject h in f.unsent voted.0 voted.1 voted.2)
    by false h k = cc

if_genuine : (setup : Setup) (before : List Noted) (s : Signed) → (IsForged setup before s → ⊥) → is_forged setup before s ≡ false
unfolding is_forged
if_genuine setup before s g =
    by (is_honest setup s.attestation.signer) refl (keyed_verifies setup.key_base (members_of setup) s.subject s.attestation) refl (has_sent before s.attestation.signer s.subject) refl
  where
    by : (h : Bool) → is_honest setup s.attestation.signer ≡ h → (v : Bool) → keyed_verifies setup.key_base (members_of setup) s.subject s.attestation ≡ v
        → (b : Bool) → has_sent before s.attestation.signer s.subject ≡ b → (h && v && not b) ≡ false
    by true h true v true b = refl
    by true h true v false b =
        absurd (g (record { honest = h; verifies = v; unsent = λ vote sent on. (let was = sent_it before s.attestation.signer s.subject vote sent on in cc) }))
    by true h false v b e = refl
    by false h v e b f = refl

module _ (setup : Setup) (before : List Noted) where
  all_genuine : (list : List Signed) → All (λ s. is_forged setup before s ≡ false) list → All (λ s. IsForged setup before s → ⊥) list
  all_genuine [] h = All-nil (λ s. IsForged setup before s → ⊥)
  all_genuine (s ∷ list) h =
      All-cons (λ t. IsForged setup before t → ⊥) s list (genuine_if setup before s (All-head (λ t. is_forged setup before t ≡ false) s list h))
      (all_genuine list (All-tail (λ t. is_forged setup before t ≡ false) s list h))

  genuine_all : (list : List Signed) → All (λ s. IsForged setup before s → ⊥) list → All (λ s. is_forged setup before s ≡ false) list
  genuine_all [] h = All-nil (λ s. is_forged setup before s ≡ false)
  genuine_all (s ∷ list) h =
      All-cons (λ t. is_forged setup before t ≡ false) s list (if_genuine setup before s (All-head (λ t. IsForged setup before t → ⊥) s list h))
      (genuine_all list (All-tail (λ t. IsForged setup before t → ⊥) s list h))

abbrev signed_at : Packet → List Signed
signed_at packet = signed_in packet.channel packet.bytes

abbrev is_by_faulty : Setup → Packet → Bool
is_by_faulty setup packet = is_faulty_member setup packet.from.member

forges_nothing : (setup : Setup) (before : List Noted) (entry : Entry) → first_forged setup before entry ≡ None → ForgesNothing setup before entry
unfolding first_forged
forges_nothing setup before entry e =
    each_of (λ s. IsForged setup before s → ⊥) (is_by_faulty setup) signed_at entry.packets
    (all_genuine setup before (signed_by_faulty setup entry.packets) (all_fail (is_forged setup before) (signed_by_faulty setup entry.packets) e))

none_forged : (setup : Setup) (before : List Noted) (entry : Entry) → ForgesNothing setup before entry → first_forged setup before entry ≡ None
unfolding first_forged
none_forged setup before entry h =
    none_found (is_forged setup before) (signed_by_faulty setup entry.packets)
    (genuine_all setup before (signed_by_faulty setup entry.packets) (of_each (λ s. IsForged setup before s → ⊥) (is_by_faulty setup) signed_at entry.packets h))

-- ---- an answer, where what is forged is refused

abbrev MakesGenuine : Setup → List Noted → Result Noted RunError → Type 0
MakesGenuine setup before r = IfOk r (λ noted. ForgesNothing setup before noted.entry)

pub unforged_ok : (setup : Setup) (before : List Noted) (r : Result Noted RunError) → is_ok r ≡ true → MakesGenuine setup before r → is_ok (unless_forged setup before r) ≡ true
unfolding unless_forged
unforged_ok setup before (Err error) h g = cc
unforged_ok setup before (Ok noted) h g = rw (none_forged setup before noted.entry g) refl

was_ok : (setup : Setup) (before : List Noted) (noted : Noted) (o : Option Signed) → first_forged setup before noted.entry ≡ o → is_ok (unless o noted) ≡ true → ForgesNothing setup before noted.entry
was_ok setup before noted None e h = forges_nothing setup before noted.entry e
was_ok setup before noted (Some s) e h = cc

pub ok_unforged : (setup : Setup) (before : List Noted) (r : Result Noted RunError) → is_ok (unless_forged setup before r) ≡ true → (is_ok r ≡ true) × MakesGenuine setup before r
unfolding unless_forged
ok_unforged setup before (Err error) h = cc
ok_unforged setup before (Ok noted) h = (refl, was_ok setup before noted (first_forged setup before noted.entry) refl h)
