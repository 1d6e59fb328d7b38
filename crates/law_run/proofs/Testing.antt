-- Each signature in the packets of faulty members is of a faulty member, or of one that sent a vote on its subject: the
-- run is refused else.
use Rattle.std.proofs.Common.{◌≡◌, ℕ, ◌<◌, ◌&&◌, ◌⊎◌, not, Bool, true, false, List, [], ◌∷◌, ◌++◌, map, find, All, Contains, Option, Some, None, Result, Ok, Err, inl, inr, refl, sym, subst, if◌then◌else◌, arith}
use Rattle.std.specs.List.{flat_map}
use Rattle.std.proofs.lemmas.List.Elements.{All-nil, All-cons, Contains-append_left, Contains-append_right}
use Rattle.std.proofs.lemmas.Bool.Decides.{nat_tests}
use Rattle.std.proofs.lemmas.Grind.{common_steps}
use Rattle.simplex_values.specs.declared.plan.Channel.{Channel}
use Rattle.simplex_values.specs.declared.plan.Channel.TheVariants as channels
use Rattle.simplex_values.specs.declared.proposal.Subject.{Subject}
use Rattle.simplex_wire.specs.declared.attestation.Attestation.{Attestation}
use Rattle.simplex_wire.specs.declared.certificate.Certificate.{Certificate}
use Rattle.simplex_wire.specs.declared.error.DecodeError.{DecodeError}
use Rattle.simplex_wire.specs.declared.resolver.ResolverBody.{ResolverBody}
use Rattle.simplex_wire.specs.declared.resolver.ResolverBody.TheVariants as bodies
use Rattle.simplex_wire.specs.declared.resolver.ResolverMessage.{ResolverMessage}
use Rattle.simplex_wire.specs.declared.vote.Vote.{Vote}
use Rattle.simplex_wire.specs.Fields.{vote_subject, vote_attestation, certificate_subject, certificate_signatures}
use Rattle.simplex_wire.specs.Format.{whole}
use Rattle.simplex_wire.specs.Message as format
use Rattle.simplex_wire.specs.ResolverMessage.{resolver_message}
use Rattle.simplex_types.specs.Keyed.{keyed_verifies}
use Rattle.simplex_transcript.specs.declared.entry.Packet.{Packet}
use Rattle.simplex_transcript.specs.declared.event.Event.{Event}
use Rattle.simplex_transcript.specs.declared.refusal.RunError.{RunError}
use Rattle.simplex_transcript.specs.declared.setup.Setup.{Setup}
use Rattle.model_run.specs.Setting.{Setting}
use Rattle.model_run.specs.Kinds.{members_of, is_honest, is_faulty_member, is_same_node, node_of}
use Rattle.model_run.specs.Life.{Noted}
use Rattle.model_run.specs.SentVotes.{has_sent}
use Rattle.model_run.specs.Forged.{Signed, signed, signed_in_vote, signed_in_certificate, signed_in_body, signed_in_message, signed_in, is_forged, signed_by_faulty, first_forged, unless, unless_forged}
use Rattle.model_run.specs.Entries.{made_of, entry_of}
use Rattle.law_agreement.proofs.ListFacts.{not_in_empty, Contains-here, Contains-cons_cases}
use Rattle.law_run.specs.Faulty.{faulty_of}
pub use Rattle.law_run.specs.Passing.{IsOwnOrSent, PassesOn}
use Rattle.law_run.specs.Sayings.{Each}
use Rattle.law_run.proofs.Members.{unhonest_faulty, faulty_listed}
use Rattle.law_run.specs.Backed.{read_certificate, in_body, in_response}
use Rattle.law_run.specs.Voting.{read_vote, vote_on, vote_in, HasVoted}
use Rattle.law_run.proofs.Sent.{voted}

-- ---- what passes the test

-- a packet of a faulty member that passes the test
pub record IsTested (setup : Setup) (before : List Noted) (packet : Packet) : Type 0 where
  pub from : Contains (faulty_of setup) packet.from.member
  pub passes : PassesOn setup before packet.channel packet.bytes

-- ---- the votes that were sent

pub in_flat : {A B : Type 0} (f : A → List B) (xs : List A) (x : A) (y : B) → Contains xs x → Contains (f x) y → Contains (flat_map f xs) y
in_flat f [] x y k h = absurd (not_in_empty x k)
in_flat f (z ∷ xs) x y k h =
    elim (Contains-cons_cases z xs x k) [
      | inl e ↦ Contains-append_left (f z) (flat_map f xs) y (subst (λ w. Contains (f w) y) (sym e) h)
      | inr r ↦ Contains-append_right (f z) (flat_map f xs) y (in_flat f xs x y r h)
    ]

pub vote_here : (member : ℕ) (p : Packet) (v : Vote) → is_same_node (node_of member) p.from ≡ true → p.channel ≡ channels.Vote → whole format.vote p.bytes ≡ Ok v → Contains (vote_in member p) v
vote_here member p v n c e =
    subst (λ (b : Bool). Contains (if b then vote_on p.channel p.bytes else []) v) (sym n)
    (subst (λ (x : Channel). Contains (vote_on x p.bytes) v) (sym c)
    (subst (λ r. Contains (read_vote r) v) (sym e) (Contains-here v [])))

-- ---- the run's own test

none_found : {A : Type 0} (test : A → Bool) (xs : List A) → find test xs ≡ None → Each (λ (x : A). test x ≡ false) xs
none_found test [] e = tt
none_found {A} test (x ∷ xs) e = at (test x) refl e (none_found test xs)
  where
    at : (b : Bool) → test x ≡ b → (if b then Some x else find test xs) ≡ None → (find test xs ≡ None → Each (λ (y : A). test y ≡ false) xs) → Each (λ (y : A). test y ≡ false) (x ∷ xs)
    at true h k more = cc
    at false h k more = (h, more k)

signer_there : (base n : ℕ) (subject : Subject) (a : Attestation) → keyed_verifies base n subject a ≡ true → a.signer < n
unfolding keyed_verifies
signer_there base n subject a h = grind (arith, nat_tests, common_steps, h)

-- what is not forged is genuine
genuine_where : (setup : Setup) (before : List Noted) (subject : Subject) (a : Attestation) → is_forged setup before (signed subject a) ≡ false → IsOwnOrSent setup before subject a
unfolding is_forged
genuine_where setup before subject a e v = by (is_honest setup a.signer) refl (has_sent before a.signer subject) refl (subst (λ (b : Bool). (is_honest setup a.signer && b && not (has_sent before a.signer subject)) ≡ false) v e)
  where
    by : (h : Bool) → is_honest setup a.signer ≡ h → (s : Bool) → has_sent before a.signer subject ≡ s → (h && true && not s) ≡ false → Contains (faulty_of setup) a.signer ⊎ HasVoted before a.signer subject
    by false h s k f = inl (faulty_listed setup a.signer (unhonest_faulty setup a.signer (signer_there setup.key_base (members_of setup) subject a v) h))
    by true h true k f = inr (voted before a.signer subject k)
    by true h false k f = cc

genuine_each : (setup : Setup) (before : List Noted) (subject : Subject) (list : List Attestation) → Each (λ (s : Signed). is_forged setup before s ≡ false) (map (signed subject) list) → All (IsOwnOrSent setup before subject) list
genuine_each setup before subject [] h = All-nil (IsOwnOrSent setup before subject)
genuine_each setup before subject (a ∷ list) h = All-cons (IsOwnOrSent setup before subject) a list (genuine_where setup before subject a h.0) (genuine_each setup before subject list h.1)

abbrev pub NoneForged : Setup → List Noted → List Signed → Type 0
NoneForged setup before list = Each (λ (s : Signed). is_forged setup before s ≡ false) list

certificate_passes : (setup : Setup) (before : List Noted) (r : Result Certificate DecodeError) (c : Certificate) → NoneForged setup before (signed_in_certificate r) → Contains (read_certificate r) c
    → All (IsOwnOrSent setup before (certificate_subject c)) (certificate_signatures c)
certificate_passes setup before (Ok x) c h k = elim (Contains-cons_cases x [] c k) [
  | inl same ↦ subst (λ (y : Certificate). All (IsOwnOrSent setup before (certificate_subject y)) (certificate_signatures y)) same (genuine_each setup before (certificate_subject x) (certificate_signatures x) h)
  | inr r ↦ absurd (not_in_empty c r)
]
certificate_passes setup before (Err error) c h k = absurd (not_in_empty c k)

body_passes : (setup : Setup) (before : List Noted) (body : ResolverBody) (c : Certificate) → NoneForged setup before (signed_in_body body) → Contains (in_body body) c
    → All (IsOwnOrSent setup before (certificate_subject c)) (certificate_signatures c)
body_passes setup before (bodies.Response bytes) c h k = certificate_passes setup before (whole format.certificate bytes) c h k
body_passes setup before (bodies.Request view) c h k = absurd (not_in_empty c k)
body_passes setup before bodies.Error c h k = absurd (not_in_empty c k)

passes_on : (setup : Setup) (before : List Noted) (channel : Channel) (bytes : List ℕ) → NoneForged setup before (signed_in channel bytes) → PassesOn setup before channel bytes
unfolding signed_in
passes_on setup before channels.Vote bytes h = λ v e. (let s = subst (λ r. NoneForged setup before (signed_in_vote r)) e h in genuine_where setup before (vote_subject v) (vote_attestation v) s.0)
passes_on setup before channels.Certificate bytes h = λ c e. certificate_passes setup before (Ok c) c (subst (λ r. NoneForged setup before (signed_in_certificate r)) e h) (Contains-here c [])
passes_on setup before channels.Resolver bytes h = λ c k. at (whole resolver_message bytes) c h k
  where
    at : (r : Result ResolverMessage DecodeError) (c : Certificate) → NoneForged setup before (signed_in_message r) → Contains (in_response r) c → All (IsOwnOrSent setup before (certificate_subject c)) (certificate_signatures c)
    at (Ok message) c s i = body_passes setup before message.body c s i
    at (Err error) c s i = absurd (not_in_empty c i)

each_front : {A : Type 0} (P : A → Type 0) (xs ys : List A) → Each P (xs ++ ys) → Each P xs × Each P ys
each_front P [] ys h = (tt, h)
each_front P (x ∷ xs) ys h = (let r = each_front P xs ys h.1 in ((h.0, r.0), r.1))

packets_pass : (setup : Setup) (before : List Noted) (ps : List Packet) → Each (λ (p : Packet). is_faulty_member setup p.from.member ≡ true) ps → NoneForged setup before (signed_by_faulty setup ps) → Each (IsTested setup before) ps
packets_pass setup before [] f h = tt
packets_pass setup before (p ∷ ps) f h =
    let only : signed_by_faulty setup (p ∷ ps) ≡ signed_in p.channel p.bytes ++ signed_by_faulty setup ps = grind (arith, nat_tests, common_steps, f.0) in
    let parts = each_front (λ (s : Signed). is_forged setup before s ≡ false) (signed_in p.channel p.bytes) (signed_by_faulty setup ps) (subst (NoneForged setup before) only h) in
    (record { from = faulty_listed setup p.from.member f.0; passes = passes_on setup before p.channel p.bytes parts.0 }, packets_pass setup before ps f.1 parts.1)

-- what is not refused holds no forgery
none_forged : (setup : Setup) (before : List Noted) (r : Result Noted RunError) (noted : Noted) → unless_forged setup before r ≡ Ok noted → first_forged setup before noted.entry ≡ None
unfolding unless_forged
none_forged setup before (Err error) noted e = cc
none_forged setup before (Ok n) noted e = at (first_forged setup before n.entry) refl e
  where
    at : (o : Option Signed) → first_forged setup before n.entry ≡ o → unless o n ≡ Ok noted → first_forged setup before noted.entry ≡ None
    at None h k = (let same : n ≡ noted = cc in subst (λ (m : Noted). first_forged setup before m.entry ≡ None) same h)
    at (Some s) h k = cc

pub entry_tested : (setting : Setting) (before : List Noted) (event : Event) (noted : Noted) → entry_of setting before event ≡ Ok noted → Each (λ (p : Packet). is_faulty_member setting.setup p.from.member ≡ true) noted.entry.packets
    → Each (IsTested setting.setup before) noted.entry.packets
unfolding entry_of first_forged
entry_tested setting before event noted e f =
    packets_pass setting.setup before noted.entry.packets f (none_found (is_forged setting.setup before) (signed_by_faulty setting.setup noted.entry.packets) (none_forged setting.setup before (made_of setting before event) noted e))
