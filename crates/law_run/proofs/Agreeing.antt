-- Backing, genuine certificates and votes in order leave no conflict: no step, life or journal is looked at.
use Rattle.std.proofs.Common.{◌≡◌, ℕ, ◌<◌, ◌≤◌, ◌++◌, ◌⊎◌, Bool, true, false, List, [], ◌∷◌, length, map, All, Contains, Some, None, sym, subst, inl, inr, arith, if◌then◌else◌}
use Rattle.std.specs.List.{flat_map}
use Rattle.std.proofs.lemmas.Bool.{cases_lt}
use Rattle.std.proofs.lemmas.List.{length-map}
use Rattle.std.proofs.lemmas.List.Elements.{All-contains, All-contains_itself, All-map, All-weaker, Contains-append_cases, Contains-append_left, Contains-append_right}
use Rattle.simplex_values.specs.declared.proposal.Subject.{Subject}
use Rattle.simplex_wire.specs.declared.artifact.Artifact.{Artifact}
use Rattle.simplex_wire.specs.declared.artifact.Artifact.TheVariants as artifacts
use Rattle.simplex_wire.specs.declared.attestation.Attestation.{Attestation}
use Rattle.simplex_wire.specs.declared.certificate.Certificate.{Certificate}
use Rattle.simplex_wire.specs.declared.certificate.Certificate.TheVariants as certificates
use Rattle.simplex_wire.specs.declared.certificate.Finalization.{Finalization}
use Rattle.simplex_wire.specs.Fields.{vote_subject, certificate_subject, certificate_signatures}
use Rattle.simplex_types.specs.Keyed.{keyed_verifies}
use Rattle.simplex_messages.specs.declared.call.Call.{Call}
use Rattle.simplex_messages.specs.declared.call.Call.TheVariants as calls
use Rattle.simplex_transcript.specs.declared.event.Event.{Event}
use Rattle.simplex_transcript.specs.declared.event.Event.TheVariants as events
use Rattle.simplex_transcript.specs.declared.node.Node.{Node}
use Rattle.simplex_transcript.specs.declared.setup.Setup.{Setup}
use Rattle.model_run.specs.Life.{Noted, is_of}
use Rattle.model_run.specs.Members.{members_of, is_same_node}
use Rattle.model_run.specs.Entries.{node_of}
use Rattle.law_agreement.specs.World as agreement
use Rattle.law_agreement.specs.World.{Sent, World, HasSent, IsBacked, IsHonest, IsLawful, MayStand, MayFollow}
use Rattle.law_agreement.proofs.ListFacts.{not_in_empty, Contains-here, Contains-cons_cases}
use Rattle.law_agreement.proofs.Safety.{no_conflict}
use Rattle.law_member.specs.Life.{statement_of, certificate_in, taken}
use Rattle.law_run.specs.Faulty.{faulty_of}
use Rattle.law_run.specs.Histories as histories
use Rattle.law_run.specs.Histories.{calls_of, floors_of}
use Rattle.law_run.proofs.Above.{sent_of}
use Rattle.law_run.specs.Backed.{of_record, of_call, of_message, IsVerifying, IsBackedIn, AreBacked, StandsIn}
use Rattle.law_run.specs.Genuine.{floor_in, said_in, AreGenuine}
use Rattle.law_run.specs.MostlyHonest.{HasFewFaulty}
use Rattle.law_run.specs.Safe.{Stands, AgreeAll}
use Rattle.law_run.specs.Voting.{vote_in, sent_votes, HasVoted, HasSigned}
use Rattle.law_run.specs.WellSent.{Came, EachWellSent, AllWellSent}
use Rattle.law_run.proofs.Genuine.{called_stands}
use Rattle.law_run.proofs.Good.{certified_parts, each_verifies}
use Rattle.law_run.proofs.BackingNaming.{in_map}
use Rattle.law_run.proofs.Worlds.{find, in_flat_map, rising_from}

-- ---- what stands and verifies is backed by all that was sent

signed_later : (noted : Noted) (before : List Noted) (s : Subject) (a : Attestation) → HasSigned before s a → HasSigned (noted ∷ before) s a
unfolding sent_votes
signed_later noted before s a h = (h.0, Contains-append_left (sent_votes before a.signer) (flat_map (vote_in a.signer) noted.entry.packets) h.0 h.1, h.2, h.3)

stands_backed : (setup : Setup) (noted : List Noted) (c : Certificate) → AreBacked setup noted → StandsIn noted c → IsVerifying setup c → IsBackedIn setup noted c
unfolding AreBacked StandsIn
stands_backed setup [] c backed k v = absurd k
stands_backed setup (noted ∷ before) c backed k v = elim k [
  | inl here ↦ backed.0 c here v
  | inr r ↦ All-weaker (λ (a : Attestation). Contains (faulty_of setup) a.signer ⊎ HasSigned before (certificate_subject c) a) (λ (a : Attestation). Contains (faulty_of setup) a.signer ⊎ HasSigned (noted ∷ before) (certificate_subject c) a)
      (λ a h. elim h [ inl bad ↦ inl bad | inr s ↦ inr (signed_later noted before (certificate_subject c) a s) ]) (certificate_signatures c) (stands_backed setup before c backed.1 r v)
]

-- ---- what came to a node stands, and verifies

-- a certificate of the run, and what it states
abbrev IsFrom : Setup → List Noted → agreement.Certificate → Type 0
IsFrom setup noted c = (x : Certificate) × Stands setup noted x × (statement_of x ≡ c)

in_record : (a : Artifact) (c : agreement.Certificate) → Contains (certificate_in a) c → (x : Certificate) × Contains (of_record a) x × (statement_of x ≡ c)
in_record (artifacts.Notarization n) c k = elim (Contains-cons_cases _ [] c k) [ inl e ↦ (certificates.Notarization n, Contains-here _ [], e) | inr r ↦ absurd (not_in_empty c r) ]
in_record (artifacts.Nullification n) c k = elim (Contains-cons_cases _ [] c k) [ inl e ↦ (certificates.Nullification n, Contains-here _ [], e) | inr r ↦ absurd (not_in_empty c r) ]
in_record (artifacts.Finalization n) c k = elim (Contains-cons_cases _ [] c k) [ inl e ↦ (certificates.Finalization n, Contains-here _ [], e) | inr r ↦ absurd (not_in_empty c r) ]
in_record (artifacts.Notarize v) c k = absurd (not_in_empty c k)
in_record (artifacts.Nullify v) c k = absurd (not_in_empty c k)
in_record (artifacts.Finalize v) c k = absurd (not_in_empty c k)
in_record (artifacts.Certification r good) c k = absurd (not_in_empty c k)

taken_from : (cs : List Call) (c : agreement.Certificate) → Contains (taken cs) c → (x : Certificate) × Contains (flat_map of_call cs) x × (statement_of x ≡ c)
unfolding taken
taken_from [] c k = absurd (not_in_empty c k)
taken_from (calls.Append n a ∷ rest) c k = elim (Contains-append_cases (certificate_in a) (taken rest) c k) [
  | inl here ↦ (let f = in_record a c here in (f.0, Contains-append_left (of_record a) (flat_map of_call rest) f.0 f.1, f.2))
  | inr r ↦ (let f = taken_from rest c r in (f.0, Contains-append_right (of_record a) (flat_map of_call rest) f.0 f.1, f.2))
]
taken_from (calls.Sync n ∷ rest) c k = taken_from rest c k
taken_from (calls.Prune n ∷ rest) c k = taken_from rest c k
taken_from (calls.Send channel to bytes ∷ rest) c k = taken_from rest c k
taken_from (calls.Report activity ∷ rest) c k = (let f = taken_from rest c k in (f.0, Contains-append_right (of_call (calls.Report activity)) (flat_map of_call rest) f.0 f.1, f.2))
taken_from (calls.Relay payload plan ∷ rest) c k = taken_from rest c k
taken_from (calls.Block who why ∷ rest) c k = taken_from rest c k

pub into_flat_map : {A B : Type 0} (f : A → List B) (xs : List A) (x : A) (y : B) → Contains xs x → Contains (f x) y → Contains (flat_map f xs) y
into_flat_map f [] x y k h = absurd (not_in_empty x k)
into_flat_map f (z ∷ xs) x y k h = elim (Contains-cons_cases z xs x k) [
  | inl e ↦ Contains-append_left (f z) (flat_map f xs) y (subst (λ t. Contains (f t) y) (sym e) h)
  | inr r ↦ Contains-append_right (f z) (flat_map f xs) y (into_flat_map f xs x y r h)
]

pub called_said : (noted : Noted) (x : Certificate) → Contains (flat_map of_call noted.entry.calls) x → Contains (said_in noted) x
called_said noted x k = Contains-append_right (floor_in noted.event ++ noted.entry.added ++ flat_map of_message noted.entry.handed) (flat_map of_call noted.entry.calls) x k

floor_said : (noted : Noted) (x : Certificate) → Contains (floor_in noted.event) x → Contains (said_in noted) x
floor_said noted x k =
    Contains-append_left (floor_in noted.event ++ noted.entry.added ++ flat_map of_message noted.entry.handed) (flat_map of_call noted.entry.calls) x
    (Contains-append_left (floor_in noted.event ++ noted.entry.added) (flat_map of_message noted.entry.handed) x
    (Contains-append_left (floor_in noted.event) noted.entry.added x k))

calls_stand : (setup : Setup) (node : Node) (noted : List Noted) (call : Call) (x : Certificate) → AreGenuine setup noted → Contains (calls_of node noted) call → Contains (of_call call) x → Stands setup noted x
unfolding calls_of StandsIn AreGenuine
calls_stand setup node [] call x genuine k h = absurd (not_in_empty call k)
calls_stand setup node (noted ∷ before) call x genuine k h = at (is_of node noted.event) k (λ old. calls_stand setup node before call x genuine.1 old h)
  where
    now : Contains noted.entry.calls call → Stands setup (noted ∷ before) x
    now new =
        let there = into_flat_map of_call noted.entry.calls call x new h in
        (inl (called_stands noted.entry x there), (let it = genuine.0 in it.verifies x (called_said noted x there)))

    at : (b : Bool) → Contains (if b then calls_of node before ++ noted.entry.calls else calls_of node before) call → (Contains (calls_of node before) call → Stands setup before x) → Stands setup (noted ∷ before) x
    at true g old = elim (Contains-append_cases (calls_of node before) noted.entry.calls call g) [ inl o ↦ (let s = old o in (inr s.0, s.1)) | inr new ↦ now new ]
    at false g old = let s = old g in (inr s.0, s.1)

taken_stands : (setup : Setup) (node : Node) (noted : List Noted) (c : agreement.Certificate) → AreGenuine setup noted → Contains (taken (calls_of node noted)) c → IsFrom setup noted c
taken_stands setup node noted c genuine k =
    let f = taken_from (calls_of node noted) c k in
    let call = in_flat_map of_call (calls_of node noted) f.0 f.1 in
    (f.0, calls_stand setup node noted call.0 f.0 genuine call.1 call.2, f.2)

one_floor : (node at : Node) (f : Finalization) (c : agreement.Certificate) (b : Bool) → Contains (if b then statement_of (certificates.Finalization f) ∷ [] else []) c → statement_of (certificates.Finalization f) ≡ c
one_floor node at f c true k = elim (Contains-cons_cases _ [] c k) [ inl e ↦ e | inr r ↦ absurd (not_in_empty c r) ]
one_floor node at f c false k = absurd (not_in_empty c k)

floor_from : (node : Node) (event : Event) (c : agreement.Certificate) → Contains (histories.floor_in node event) c → (x : Certificate) × Contains (floor_in event) x × (statement_of x ≡ c)
floor_from node (events.Start at (Some f) stop) c k = (certificates.Finalization f, Contains-here _ [], one_floor node at f c (is_same_node at node) k)
floor_from node (events.Start at None stop) c k = absurd (not_in_empty c k)
floor_from node (events.Tick ms) c k = absurd (not_in_empty c k)
floor_from node (events.Deliver at ref) c k = absurd (not_in_empty c k)
floor_from node (events.Step at source stop) c k = absurd (not_in_empty c k)
floor_from node (events.Answer at ref answer) c k = absurd (not_in_empty c k)
floor_from node (events.Crash at) c k = absurd (not_in_empty c k)
floor_from node (events.Inject who channel to bytes) c k = absurd (not_in_empty c k)

floors_stand : (setup : Setup) (node : Node) (noted : List Noted) (c : agreement.Certificate) → AreGenuine setup noted → Contains (floors_of node noted) c → IsFrom setup noted c
unfolding floors_of StandsIn AreGenuine
floors_stand setup node [] c genuine k = absurd (not_in_empty c k)
floors_stand setup node (noted ∷ before) c genuine k = elim (Contains-append_cases (floors_of node before) (histories.floor_in node noted.event) c k) [
  | inl old ↦ (let f = floors_stand setup node before c genuine.1 old in (f.0, (inr f.1.0, f.1.1), f.2))
  | inr new ↦ (let f = floor_from node noted.event c new in
      let it = genuine.0 in
      (f.0, (inr (it.stood f.0 f.1), it.verifies f.0 (floor_said noted f.0 f.1)), f.2))
]

-- ---- the run as a world

module _ (setup : Setup) (noted : List Noted) (few : HasFewFaulty setup) (backed : AreBacked setup noted) (genuine : AreGenuine setup noted) (sent : EachWellSent setup noted) where
  votes_by : (i : ℕ) → Contains (faulty_of setup) i ⊎ ¬ (Contains (faulty_of setup) i) → (i < members_of setup) ⊎ (members_of setup ≤ i) → List Sent
  votes_by i (inl bad) at = []
  votes_by i (inr honest) (inl below) = (sent i below honest).votes
  votes_by i (inr honest) (inr above) = []

  abbrev w : World
  w = record { members = members_of setup; term_length = setup.term; faulty = faulty_of setup; history = λ i. votes_by i (find (faulty_of setup) i) (cases_lt i (members_of setup)) }

  voted_by : (i : ℕ) (s : Subject) (d : Contains (faulty_of setup) i ⊎ ¬ (Contains (faulty_of setup) i)) (e : (i < members_of setup) ⊎ (members_of setup ≤ i)) → i < members_of setup → HasVoted noted i s
      → Contains (faulty_of setup) i ⊎ ((known : List agreement.Certificate) × Contains (votes_by i d e) (record { subject = s; known = known }))
  unfolding votes_by
  voted_by i s (inl bad) e below h = inl bad
  voted_by i s (inr honest) (inr above) below h = absurd (omega (arith, below, above))
  voted_by i s (inr honest) (inl low) below h =
      let all = sent i low honest in
      let read : Contains (map vote_subject (sent_votes noted i)) s = subst (Contains (map vote_subject (sent_votes noted i))) h.2 (in_map vote_subject (sent_votes noted i) h.0 h.1) in
      inr (sent_of all.votes s (subst (λ (xs : List Subject). Contains xs s) (sym all.same) read))

  signer_sent : (c : Certificate) (a : Attestation) → a.signer < members_of setup → Contains (faulty_of setup) a.signer ⊎ HasSigned noted (certificate_subject c) a → Contains (faulty_of setup) a.signer ⊎ HasSent w a.signer (certificate_subject c)
  signer_sent c a below (inl bad) = inl bad
  signer_sent c a below (inr h) = voted_by a.signer (certificate_subject c) (find (faulty_of setup) a.signer) (cases_lt a.signer (members_of setup)) below (h.0, h.1, h.2)

  in_world : (c : Certificate) → Stands setup noted c → IsBacked w (statement_of c)
  in_world c st =
      let n = members_of setup in
      let list = certificate_signatures c in
      let verifies = keyed_verifies setup.key_base n (certificate_subject c) in
      let parts = certified_parts verifies n list st.1 in
      let below = All-weaker (λ (a : Attestation). (a.signer < n) × (verifies a ≡ true)) (λ (a : Attestation). a.signer < n) (λ a h. h.0) list (each_verifies verifies n list parts.each) in
      let signed = stands_backed setup noted c backed st.0 st.1 in
      let P = λ (a : Attestation). Contains (faulty_of setup) a.signer ⊎ HasSigned noted (certificate_subject c) a in
      let signer : Attestation → ℕ = λ a. a.signer in
      let same : length (map signer list) ≡ length list = length-map list signer in
      let S = λ (i : ℕ). Contains (faulty_of setup) i ⊎ HasSent w i (certificate_subject c) in
      record {
        quorum = record {
          rising = rising_from 0 list parts.rises;
          members = All-map (λ i. i < n) signer list below;
          enough = omega (arith, parts.quorum, same);
        };
        signed = All-map S signer list (All-weaker (Contains list) (λ (a : Attestation). S a.signer)
            (λ a k. signer_sent c a (All-contains (λ (x : Attestation). x.signer < n) list a below k) (All-contains P list a signed k)) list (All-contains_itself list));
      }

  came_backed : (node : Node) (c : agreement.Certificate) → Came noted node c → IsBacked w c
  came_backed node c (inl t) = let f = taken_stands setup node noted c genuine t in subst (IsBacked w) f.2 (in_world f.0 f.1)
  came_backed node c (inr l) = let f = floors_stand setup node noted c genuine l in subst (IsBacked w) f.2 (in_world f.0 f.1)

  honest_by : (i : ℕ) (d : Contains (faulty_of setup) i ⊎ ¬ (Contains (faulty_of setup) i)) (e : (i < members_of setup) ⊎ (members_of setup ≤ i)) → i < members_of setup → ¬ (Contains (faulty_of setup) i) → IsHonest w (votes_by i d e)
  unfolding votes_by
  honest_by i (inl bad) e below honest = absurd (honest bad)
  honest_by i (inr good) (inr above) below honest = absurd (omega (arith, below, above))
  honest_by i (inr good) (inl low) below honest =
      let all = sent i low good in
      record {
        alone = all.alone;
        order = all.order;
        backed = All-weaker (λ (s : Sent). All (Came noted (node_of i)) s.known) (λ (s : Sent). All (IsBacked w) s.known)
            (λ s h. All-weaker (Came noted (node_of i)) (IsBacked w) (came_backed (node_of i)) s.known h) all.votes all.came;
      }

  lawful : IsLawful w
  lawful = record { members = few.some; term_length = few.term; faulty = few.few; honest = λ i. honest_by i (find (faulty_of setup) i) (cases_lt i (members_of setup)) }

  agreed : AgreeAll setup noted
  agreed a b sa sb = no_conflict w lawful (certificate_subject a) (certificate_subject b) (statement_of a).signers (statement_of b).signers (in_world a sa) (in_world b sb)

-- ---- the law

pub words_agree : (setup : Setup) (noted : List Noted) → HasFewFaulty setup → AreBacked setup noted → AreGenuine setup noted → AllWellSent setup noted → AgreeAll setup noted
unfolding AllWellSent StandsIn
words_agree setup [] few backed genuine sent a b sa sb = absurd sa.0
words_agree setup (noted ∷ before) few backed genuine sent a b sa sb = agreed setup (noted ∷ before) few backed genuine sent.0 a b sa sb
