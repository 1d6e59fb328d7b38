-- An impersonator's attestation verifies only where its own signature is that of the member whose number it takes.
use Rattle.std.proofs.Common.{◌≡◌, ℕ, ◌<◌, ◌^◌, ◌==◌, ◌&&◌, nat_lt, not, Bool, true, false, List, [], ◌∷◌, map, filter, find, slice_get, bytes_eq, Contains, Option, Some, None, IfSome, option_map, Ok, refl, sym, ap, ◌∙◌, subst, arith, inl, inr, if◌then◌else◌}
use Rattle.std.specs.List.{flat_map}
use Rattle.std.specs.Option.{option_map_or, unwrap_or}
use Rattle.std.proofs.lemmas.List.Elements.{Contains-append_cases}
use Rattle.std.proofs.lemmas.Slice.Eq.{bytes_eq-Decides}
use Rattle.simplex_values.specs.declared.plan.Channel.TheVariants as channels
use Rattle.simplex_values.specs.declared.proposal.Subject.{Subject}
use Rattle.simplex_values.specs.declared.proposal.Subject.TheVariants as subjects
use Rattle.simplex_wire.specs.declared.attestation.Attestation.{Attestation}
use Rattle.simplex_wire.specs.Fits.{FitsVote, FitsAttestation}
use Rattle.simplex_wire.specs.Format.{whole}
use Rattle.simplex_wire.specs.Message as format
use Rattle.simplex_wire.proofs.Formats.{whole_again}
use Rattle.simplex_wire.proofs.Messages.{vote_is}
use Rattle.simplex_types.specs.Keyed.{signature_of, keyed_attests, keyed_verifies}
use Rattle.simplex_transcript.specs.declared.entry.Packet.{Packet}
use Rattle.simplex_transcript.specs.declared.event.Event.TheVariants as events
use Rattle.simplex_transcript.specs.declared.node.Node.{Node}
use Rattle.simplex_transcript.specs.declared.node.Ref.{Ref}
use Rattle.simplex_transcript.specs.declared.setup.Setup.{Setup}
use Rattle.simplex_transcript.specs.declared.setup.MemberKind.{MemberKind}
use Rattle.simplex_transcript.specs.declared.setup.MemberKind.TheVariants as kinds
use Rattle.model_faults.specs.Heard.{Heard, subject_heard, own_vote, votes_to_all}
use Rattle.model_faults.specs.Heard as mock
use Rattle.model_faults.specs.Impersonator.{another_number, as_another, impersonator_subjects, impersonator_sends}
use Rattle.model_run.specs.Setting.{Setting}
use Rattle.model_run.specs.Forged.{Signed, signed, signed_in_vote, signed_in, is_forged, signed_by_faulty, first_forged}
use Rattle.model_run.specs.Hearing.{heard_of, heard_in}
use Rattle.model_run.specs.Kinds.{is_of_kind, is_honest, is_faulty_member, has_engine, runs_engine}
use Rattle.model_run.specs.Life.{Noted, life_in}
use Rattle.model_run.specs.Members.{members_of, kind_of}
use Rattle.model_run.specs.Mocks.{attests_of, heard_by}
use Rattle.model_run.specs.Requests.{packet_for}
use Rattle.model_run.specs.SentVotes.{has_sent}
use Rattle.model_run.specs.Entries.{sent_by, on_deliver, on_hearing, made_of}
use Rattle.law_agreement.proofs.ListFacts.{not_in_empty, Contains-here, Contains-there, Contains-cons_cases}
use Rattle.law_member.specs.Wire.{Fits}
use Rattle.law_run.specs.Sayings.{Each}
use Rattle.law_run.proofs.Turns.{ok_is}
use Rattle.law_run.specs.Fitting.{IsOfBytes}
use Rattle.law_run.specs.MostlyHonest.{IsMostlyHonest}
use Rattle.law_run.proofs.Delivered.{packet_delivered}
use Rattle.law_run.proofs.Good.{both, signature_raw}
use Rattle.law_run.proofs.Ran.{limited, mostly_honest}
use Rattle.law_run.specs.EventForging.{is_impersonator, IsNext, HaveOneSignature}
use Rattle.law_run.proofs.Subjects.{IsHeardBytes, subject_fits}
use Rattle.law_run.proofs.Unforged.{without, packets_typed}

-- the attestation of the subject is the member's own signature under another number
abbrev IsImpersonated : Setup → ℕ → Signed → Type 0
IsImpersonated setup member s = s.attestation ≡ record { signer = another_number member; signature = signature_of setup.key_base member s.subject }

-- so it is with each that is signed in the bytes
abbrev AreImpersonated : Setup → ℕ → Packet → Type 0
AreImpersonated setup member p = (s : Signed) → Contains (signed_in p.channel p.bytes) s → IsImpersonated setup member s

subjects_fit : (o : Option Subject) → IfSome o Fits → Each Fits (impersonator_subjects o)
subjects_fit (Some (subjects.Notarize p)) f = (f, tt)
subjects_fit (Some (subjects.Finalize p)) f = (f, tt)
subjects_fit (Some (subjects.Nullify r)) f = tt
subjects_fit None f = tt

another_low : (member : ℕ) → another_number member < 2 ^ 32
another_low member = at (member == 0)
  where
    at : (b : Bool) → (if b then 1 else 0) < 2 ^ 32
    at true = omega arith
    at false = omega arith

made_fits : (s : Subject) (a : Attestation) → Fits s → FitsAttestation a → FitsVote (mock.vote_on s a)
made_fits (subjects.Notarize p) a f g = (f, g)
made_fits (subjects.Nullify r) a f g = (f, g)
made_fits (subjects.Finalize p) a f g = (f, g)

-- what is signed in a vote that was made is what was signed
made_signed : (s : Subject) (a : Attestation) (x : Signed) → Contains (signed_in_vote (Ok (mock.vote_on s a))) x → signed s a ≡ x
made_signed (subjects.Notarize p) a x k = elim (Contains-cons_cases _ [] x k) [ inl e ↦ e | inr r ↦ absurd (not_in_empty x r) ]
made_signed (subjects.Nullify r) a x k = elim (Contains-cons_cases _ [] x k) [ inl e ↦ e | inr r ↦ absurd (not_in_empty x r) ]
made_signed (subjects.Finalize p) a x k = elim (Contains-cons_cases _ [] x k) [ inl e ↦ e | inr r ↦ absurd (not_in_empty x r) ]

module _ (setup : Setup) (at : Node) where
  abbrev taken_name : Subject → Attestation
  taken_name s = record { signer = another_number at.member; signature = signature_of setup.key_base at.member s }

  bytes_signed : (s : Subject) → Fits s → (x : Signed) → Contains (signed_in channels.Vote (format.vote.spelling (mock.vote_on s (taken_name s)))) x → IsImpersonated setup at.member x
  unfolding signed_in
  bytes_signed s f x k =
      let v = mock.vote_on s (taken_name s) in
      let read : whole format.vote (format.vote.spelling v) ≡ Ok v = whole_again format.vote FitsVote vote_is v (made_fits s (taken_name s) f (another_low at.member, signature_raw setup.key_base at.member s)) in
      subst (IsImpersonated setup at.member) (made_signed s (taken_name s) x (subst (λ r. Contains (signed_in_vote r) x) read k)) refl

  votes_signed : (list : List Subject) → Each Fits list → Each (AreImpersonated setup at.member) (map (sent_by setup at) (votes_to_all (λ s. option_map as_another (attests_of setup at.member s)) list))
  unfolding votes_to_all own_vote keyed_attests
  votes_signed [] f = tt
  votes_signed (s ∷ list) f = (bytes_signed s f.0, votes_signed list f.1)

  impersonator_signed : (past : List Heard) (now : Heard) → IsHeardBytes now → Each (AreImpersonated setup at.member) (map (sent_by setup at) (heard_by setup at.member kinds.Impersonator past now))
  unfolding heard_by impersonator_sends
  impersonator_signed past now b = votes_signed (impersonator_subjects (subject_heard now)) (subjects_fit (subject_heard now) (subject_fits now b))

-- ---- what is found among them

module _ {A : Type 0} (test : A → Bool) where
  was_found : (xs : List A) (x : A) → find test xs ≡ Some x → Contains xs x × (test x ≡ true)
  was_found [] x e = cc
  was_found (y ∷ xs) x e = by (test y) refl e (was_found xs x)
    where
      by : (b : Bool) → test y ≡ b → (if b then Some y else find test xs) ≡ Some x → (find test xs ≡ Some x → Contains xs x × (test x ≡ true)) → Contains (y ∷ xs) x × (test x ≡ true)
      by true h k more = (let same : y ≡ x = cc in subst (λ z. Contains (y ∷ xs) z × (test z ≡ true)) same (Contains-here y xs, h))
      by false h k more = (let r = more k in (Contains-there y xs x r.0, r.1))

signed_there : (setup : Setup) (P : Signed → Type 0) (ps : List Packet) → Each (λ (p : Packet). (s : Signed) → Contains (signed_in p.channel p.bytes) s → P s) ps → (s : Signed) → Contains (signed_by_faulty setup ps) s → P s
signed_there setup P [] h s k = absurd (not_in_empty s k)
signed_there setup P (p ∷ ps) h s k = by (is_faulty_member setup p.from.member) k (signed_there setup P ps h.1 s)
  where
    kept : List Packet
    kept = filter (λ (q : Packet). is_faulty_member setup q.from.member) ps

    by : (b : Bool) → Contains (flat_map (λ (q : Packet). signed_in q.channel q.bytes) (if b then p ∷ kept else kept)) s → (Contains (signed_by_faulty setup ps) s → P s) → P s
    by true c more = elim (Contains-append_cases (signed_in p.channel p.bytes) (signed_by_faulty setup ps) s c) [ inl here ↦ h.0 s here | inr r ↦ more r ]
    by false c more = more c

-- the member whose number it takes has the same signature
one_signature : (setup : Setup) (before : List Noted) (member : ℕ) (s : Signed) → IsImpersonated setup member s → is_forged setup before s ≡ true → HaveOneSignature setup member s
unfolding is_forged keyed_verifies
one_signature setup before member s i e =
    let front = both (is_honest setup s.attestation.signer && keyed_verifies setup.key_base (members_of setup) s.subject s.attestation) (not (has_sent before s.attestation.signer s.subject)) e in
    let verified = both (is_honest setup s.attestation.signer) (keyed_verifies setup.key_base (members_of setup) s.subject s.attestation) front.0 in
    let same = both (nat_lt s.attestation.signer (members_of setup)) (bytes_eq s.attestation.signature (signature_of setup.key_base s.attestation.signer s.subject)) verified.1 in (
      ap (λ (a : Attestation). a.signer) i,
      sym (ap (λ (a : Attestation). a.signature) i) ∙ (bytes_eq-Decides s.attestation.signature (signature_of setup.key_base s.attestation.signer s.subject)).0 same.1,
    )

-- ---- the law

impersonators_kind : (setup : Setup) (member : ℕ) → is_of_kind is_impersonator setup member ≡ true → (kind_of setup member ≡ kinds.Impersonator) × (runs_engine setup member ≡ false)
impersonators_kind setup member e = by (slice_get setup.members member) e
  where
    by : (o : Option MemberKind) → option_map_or is_impersonator o false ≡ true → (unwrap_or o kinds.Honest ≡ kinds.Impersonator) × (option_map_or has_engine o false ≡ false)
    by None h = cc
    by (Some kinds.Impersonator) h = (refl, refl)
    by (Some kinds.Honest) h = cc
    by (Some kinds.Silent) h = cc
    by (Some kinds.Conflicter) h = cc
    by (Some kinds.Equivocator) h = cc
    by (Some kinds.Nuller) h = cc
    by (Some kinds.NullifyOnly) h = cc
    by (Some (kinds.Outdated delta)) h = cc
    by (Some kinds.Reconfigurer) h = cc
    by (Some kinds.Corrupt) h = cc
    by (Some kinds.Unrecovering) h = cc
    by (Some kinds.Twin) h = cc

heard_impersonated : (setting : Setting) (before : List Noted) (at : Node) (ref : Ref) (noted : Noted) → IsMostlyHonest setting before → kind_of setting.setup at.member ≡ kinds.Impersonator
    → (o : Option Packet) → packet_for before at ref ≡ o → on_hearing setting.setup before at ref o ≡ Ok noted → Each (AreImpersonated setting.setup at.member) noted.entry.packets
heard_impersonated setting before at ref noted o kind None f e = cc
heard_impersonated setting before at ref noted o kind (Some packet) f e =
    let bytes = packet_delivered IsOfBytes before at ref packet (packets_typed before o.typed) f in
    let all = impersonator_signed setting.setup at (heard_in before at) (heard_of packet) bytes in
    subst (λ (n : Noted). Each (AreImpersonated setting.setup at.member) n.entry.packets) (ok_is _ noted e)
    (subst (λ k. Each (AreImpersonated setting.setup at.member) (map (sent_by setting.setup at) (heard_by setting.setup at.member k (heard_in before at) (heard_of packet)))) (sym kind) all)

pub forged_by_one_signature : (setting : Setting) (before : List Noted) (at : Node) (ref : Ref) (noted : Noted) (s : Signed) → IsNext setting before (events.Deliver at ref) noted
    → is_of_kind is_impersonator setting.setup at.member ≡ true → first_forged setting.setup before noted.entry ≡ Some s → HaveOneSignature setting.setup at.member s
unfolding made_of first_forged
forged_by_one_signature setting before at ref noted s next kind e =
    let typed = next.typed in
    let o = mostly_honest setting before (limited setting.setup next.limits) next.ran typed.1 in
    let is = impersonators_kind setting.setup at.member kind in
    let w = without setting before o at (on_deliver setting.setup before at ref (life_in setting before at)) (on_hearing setting.setup before at ref (packet_for before at ref)) noted is.1 next.made in
    let found = was_found (is_forged setting.setup before) (signed_by_faulty setting.setup noted.entry.packets) s e in
    one_signature setting.setup before at.member s
    (signed_there setting.setup (IsImpersonated setting.setup at.member) noted.entry.packets (heard_impersonated setting before at ref noted o is.0 (packet_for before at ref) refl w.1) s found.0) found.1
