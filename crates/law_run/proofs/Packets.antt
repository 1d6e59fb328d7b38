-- What is read from the packets of a run: votes that were sent, and backed certificates.
use Rattle.std.proofs.Common.{◌≡◌, ℕ, ◌<◌, ◌++◌, true, List, [], ◌∷◌, All, Contains, Ok, refl, sym, ap, ◌∙◌, subst, inl, inr, Result, Err}
use Rattle.std.specs.List.{flat_map}
use Rattle.std.proofs.lemmas.List.Elements.{All-nil, All-cons, All-head, All-tail, Contains-append_left, Contains-append_right}
use Rattle.simplex_values.specs.declared.plan.Channel.{Channel}
use Rattle.simplex_values.specs.declared.plan.Channel.TheVariants as channels
use Rattle.simplex_values.specs.declared.plan.Recipients.{Recipients}
use Rattle.simplex_values.specs.declared.proposal.Subject.{Subject}
use Rattle.simplex_wire.specs.declared.attestation.Attestation.{Attestation}
use Rattle.simplex_wire.specs.declared.certificate.Certificate.{Certificate}
use Rattle.simplex_wire.specs.declared.vote.Vote.{Vote}
use Rattle.simplex_wire.specs.declared.vote.Vote.TheVariants as votes
use Rattle.simplex_wire.specs.Fields.{vote_subject, vote_attestation, certificate_subject, certificate_signatures}
use Rattle.simplex_wire.specs.Fits.{IsBytes, FitsVote, FitsCertificate, FitsAttestation}
use Rattle.simplex_wire.specs.Format.{whole}
use Rattle.simplex_wire.specs.Message as format
use Rattle.simplex_wire.proofs.Formats.{whole_takes}
use Rattle.simplex_wire.proofs.Messages.{vote_is}
use Rattle.simplex_wire.proofs.Certificates.{certificate_is}
use Rattle.simplex_wire.proofs.Resolvers.{resolver_message_is}
use Rattle.simplex_wire.specs.declared.error.DecodeError.{DecodeError}
use Rattle.simplex_wire.specs.declared.resolver.ResolverBody.{ResolverBody}
use Rattle.simplex_wire.specs.declared.resolver.ResolverBody.TheVariants as bodies
use Rattle.simplex_wire.specs.declared.resolver.ResolverMessage.{ResolverMessage}
use Rattle.simplex_wire.specs.ResolverMessage.{resolver_message, FitsBody, FitsResolverMessage}
use Rattle.simplex_types.specs.Keyed.{keyed_verifies}
use Rattle.simplex_messages.specs.declared.batcher.BatcherInput.TheVariants as inputs
use Rattle.simplex_messages.specs.declared.call.Call.{Call}
use Rattle.simplex_messages.specs.declared.call.Call.TheVariants as calls
use Rattle.simplex_transcript.specs.declared.entry.Packet.{Packet}
use Rattle.simplex_transcript.specs.declared.node.Node.{Node}
use Rattle.simplex_transcript.specs.declared.setup.Setup.{Setup}
use Rattle.model_run.specs.Life.{Noted}
use Rattle.model_run.specs.Members.{members_of, is_same_node}
use Rattle.model_run.specs.Entries.{node_of, packets_of}
use Rattle.law_agreement.proofs.ListFacts.{not_in_empty, Contains-here, Contains-there, Contains-cons_cases}
use Rattle.law_member.specs.Wire.{Fits}
use Rattle.law_run.specs.Sayings.{Each, InCall}
use Rattle.law_run.specs.Voting.{vote_in, sent_votes, HasVoted}
use Rattle.law_run.proofs.Backers.{Backers, Counts, Spoke}
use Rattle.law_run.specs.Backed.{read_certificate, in_body, in_response, certificate_on, IsVerifying}
use Rattle.law_run.proofs.Testing.{in_flat, vote_here, IsOwnOrSent, PassesOn, IsTested}
use Rattle.law_run.proofs.Answering.{answer_good}
use Rattle.law_run.proofs.Good.{IsGood, IsSized, certified_parts, each_verifies, good_again}
use Rattle.law_run.proofs.Hearing.{IsFineInput}
use Rattle.law_run.specs.Faulty.{faulty_of}

-- ---- what a packet may bring

abbrev pub FineOn : Backers → ℕ → Channel → List ℕ → Type 0
FineOn backers sender channels.Vote bytes = IsFineInput backers (inputs.Vote sender bytes)
FineOn backers sender channels.Certificate bytes = IsFineInput backers (inputs.Certificate sender bytes)
FineOn backers sender channels.Resolver bytes = (c : Certificate) → Contains (certificate_on channels.Resolver bytes) c → IsVerifying backers.setting.setup c → IsGood backers c

-- its votes count where they are from their signer, and its certificates are good where they verify
abbrev pub IsFinePacket : Backers → Packet → Type 0
IsFinePacket backers p = FineOn backers p.from.member p.channel p.bytes

-- each vote that it brings was sent by its sender, where that is not faulty
abbrev pub SpokenOn : Backers → ℕ → Channel → List ℕ → Type 0
SpokenOn backers sender channels.Vote bytes = (v : Vote) → whole format.vote bytes ≡ Ok v → Spoke backers sender v
SpokenOn backers sender _ bytes = Unit {0}

abbrev pub IsSpoken : Backers → Packet → Type 0
IsSpoken backers p = SpokenOn backers p.from.member p.channel p.bytes

pub vote_fits : (v : Vote) → FitsVote v → Fits (vote_subject v)
vote_fits (votes.Notarize v) f = f.0
vote_fits (votes.Nullify v) f = f.0
vote_fits (votes.Finalize v) f = f.0

pub fits_vote : (v : Vote) → Fits (vote_subject v) → FitsAttestation (vote_attestation v) → FitsVote v
fits_vote (votes.Notarize v) f a = (f, a)
fits_vote (votes.Nullify v) f a = (f, a)
fits_vote (votes.Finalize v) f a = (f, a)

read_fits : (bytes : List ℕ) (v : Vote) → IsBytes bytes → whole format.vote bytes ≡ Ok v → Fits (vote_subject v)
read_fits bytes v b e = vote_fits v (whole_takes format.vote FitsVote vote_is bytes v b e).1

-- a vote that was spoken, from its signer
spoken_counts : (backers : Backers) (sender : ℕ) (bytes : List ℕ) → IsBytes bytes → SpokenOn backers sender channels.Vote bytes → IsFineInput backers (inputs.Vote sender bytes)
spoken_counts backers sender bytes b s v e is = (subst (λ n. Spoke backers n v) is (s v e), read_fits bytes v b e)

-- ---- the packets of an honest node

abbrev pub IsFrom : Node → Packet → Type 0
IsFrom at p = p.from ≡ at

pub from_at : (setup : Setup) (at : Node) (cs : List Call) → Each (IsFrom at) (packets_of setup at cs)
from_at setup at [] = tt
from_at setup at (calls.Send channel to bytes ∷ rest) = (refl, from_at setup at rest)
from_at setup at (calls.Append n a ∷ rest) = from_at setup at rest
from_at setup at (calls.Sync n ∷ rest) = from_at setup at rest
from_at setup at (calls.Prune n ∷ rest) = from_at setup at rest
from_at setup at (calls.Report activity ∷ rest) = from_at setup at rest
from_at setup at (calls.Relay payload plan ∷ rest) = from_at setup at rest
from_at setup at (calls.Block who why ∷ rest) = from_at setup at rest

certificate_good : (backers : Backers) (bytes : List ℕ) (c : Certificate) → bytes ≡ format.certificate.spelling c → IsGood backers c → (x : Certificate) → whole format.certificate bytes ≡ Ok x → IsGood backers x
certificate_good backers bytes c s g x e = good_again backers c x g (ap (whole format.certificate) (sym s) ∙ e)

pub packets_fine : (backers : Backers) (at : Node) (cs : List Call) → IsSized backers.setting.setup → Each (InCall (IsGood backers)) cs → Each (λ (p : Packet). IsBytes p.bytes) (packets_of backers.setting.setup at cs) → Each (IsSpoken backers) (packets_of backers.setting.setup at cs)
    → Each (IsFinePacket backers) (packets_of backers.setting.setup at cs)
packets_fine backers at [] sized g b s = tt
packets_fine backers at (calls.Send channels.Vote to bytes ∷ rest) sized g b s = (spoken_counts backers at.member bytes b.0 s.0, packets_fine backers at rest sized g.1 b.1 s.1)
packets_fine backers at (calls.Send channels.Certificate to bytes ∷ rest) sized g b s =
    ((λ x e v. certificate_good backers bytes g.0.1 g.0.2 g.0.3 x e), packets_fine backers at rest sized g.1 b.1 s.1)
packets_fine backers at (calls.Send channels.Resolver to bytes ∷ rest) sized g b s =
    ((λ c k v. answer_good backers sized c bytes b.0 g.0 k), packets_fine backers at rest sized g.1 b.1 s.1)
packets_fine backers at (calls.Append n a ∷ rest) sized g b s = packets_fine backers at rest sized g.1 b s
packets_fine backers at (calls.Sync n ∷ rest) sized g b s = packets_fine backers at rest sized g.1 b s
packets_fine backers at (calls.Prune n ∷ rest) sized g b s = packets_fine backers at rest sized g.1 b s
packets_fine backers at (calls.Report activity ∷ rest) sized g b s = packets_fine backers at rest sized g.1 b s
packets_fine backers at (calls.Relay payload plan ∷ rest) sized g b s = packets_fine backers at rest sized g.1 b s
packets_fine backers at (calls.Block who why ∷ rest) sized g b s = packets_fine backers at rest sized g.1 b s

-- a vote that went out counts as one of the node's member
module _ (backers : Backers) (at : Node) (to : Recipients) (bytes : List ℕ) where
  abbrev sends : Call
  sends = calls.Send channels.Vote to bytes

  behind : (c : Call) (rest : List Call) → (c ≡ sends → ⊥) → Contains (c ∷ rest) sends → Contains rest sends
  behind c rest other h = elim (Contains-cons_cases c rest sends h) [ inl here ↦ absurd (other here) | inr there ↦ there ]

  pub sent_spoken : (cs : List Call) → Each (IsSpoken backers) (packets_of backers.setting.setup at cs) → Contains cs sends → SpokenOn backers at.member channels.Vote bytes
  sent_spoken [] s k = absurd (not_in_empty sends k)
  sent_spoken (calls.Send channels.Vote t b ∷ rest) s k =
      elim (Contains-cons_cases (calls.Send channels.Vote t b) rest sends k) [
        | inl here ↦ (let same : b ≡ bytes = cc in subst (SpokenOn backers at.member channels.Vote) same s.0)
        | inr there ↦ sent_spoken rest s.1 there
      ]
  sent_spoken (calls.Send channels.Certificate t b ∷ rest) s k = sent_spoken rest s.1 (behind (calls.Send channels.Certificate t b) rest (λ e. cc) k)
  sent_spoken (calls.Send channels.Resolver t b ∷ rest) s k = sent_spoken rest s.1 (behind (calls.Send channels.Resolver t b) rest (λ e. cc) k)
  sent_spoken (calls.Append n a ∷ rest) s k = sent_spoken rest s (behind (calls.Append n a) rest (λ e. cc) k)
  sent_spoken (calls.Sync n ∷ rest) s k = sent_spoken rest s (behind (calls.Sync n) rest (λ e. cc) k)
  sent_spoken (calls.Prune n ∷ rest) s k = sent_spoken rest s (behind (calls.Prune n) rest (λ e. cc) k)
  sent_spoken (calls.Report activity ∷ rest) s k = sent_spoken rest s (behind (calls.Report activity) rest (λ e. cc) k)
  sent_spoken (calls.Relay payload plan ∷ rest) s k = sent_spoken rest s (behind (calls.Relay payload plan) rest (λ e. cc) k)
  sent_spoken (calls.Block who why ∷ rest) s k = sent_spoken rest s (behind (calls.Block who why) rest (λ e. cc) k)

-- ---- what was sent stays sent

pub sent_later : (later before : List Noted) (member : ℕ) (v : Vote) → Contains (sent_votes before member) v → Contains (sent_votes (later ++ before) member) v
unfolding sent_votes
sent_later [] before member v k = k
sent_later (noted ∷ later) before member v k =
    Contains-append_left (sent_votes (later ++ before) member) (flat_map (vote_in member) noted.entry.packets) v (sent_later later before member v k)

pub voted_later : (later before : List Noted) (member : ℕ) (subject : Subject) → HasVoted before member subject → HasVoted (later ++ before) member subject
voted_later later before member subject h = (h.0, sent_later later before member h.0 h.1, h.2)

sent_now : (noted : Noted) (before : List Noted) (member : ℕ) (p : Packet) (v : Vote) → Contains noted.entry.packets p → is_same_node (node_of member) p.from ≡ true → p.channel ≡ channels.Vote
    → whole format.vote p.bytes ≡ Ok v → Contains (sent_votes (noted ∷ before) member) v
unfolding sent_votes
sent_now noted before member p v k n c e =
    Contains-append_right (sent_votes before member) (flat_map (vote_in member) noted.entry.packets) v
    (in_flat (vote_in member) noted.entry.packets p v k (vote_here member p v n c e))

-- a packet of a member's first node is spoken
pub is_spoken : (backers : Backers) (later before : List Noted) (noted : Noted) (p : Packet) → backers.noted ≡ later ++ (noted ∷ before) → Contains noted.entry.packets p
    → is_same_node (node_of p.from.member) p.from ≡ true → IsSpoken backers p
is_spoken backers later before noted p whole_is k n = at p.channel refl
  where
    at : (c : Channel) → p.channel ≡ c → SpokenOn backers p.from.member c p.bytes
    at channels.Vote c = λ v e. inr (subst (λ xs. Contains (sent_votes xs p.from.member) v) (sym whole_is)
        (sent_later later (noted ∷ before) p.from.member v (sent_now noted before p.from.member p v k n c e)))
    at channels.Certificate c = tt
    at channels.Resolver c = tt

pub each_contained : {A : Type 0} (P : A → Type 0) (xs : List A) → ((x : A) → Contains xs x → P x) → Each P xs
each_contained P [] h = tt
each_contained P (x ∷ xs) h = (h x (Contains-here x xs), each_contained P xs (λ y k. h y (Contains-there x xs y k)))

-- ---- the packets of a faulty member

genuine_counts : (backers : Backers) (later before : List Noted) (subject : Subject) (list : List Attestation) → backers.noted ≡ later ++ before
    → All (IsOwnOrSent backers.setting.setup before subject) list
    → All (λ (a : Attestation). (a.signer < members_of backers.setting.setup) × (keyed_verifies backers.setting.setup.key_base (members_of backers.setting.setup) subject a ≡ true)) list
    → All (λ (a : Attestation). Counts backers a.signer subject) list
genuine_counts backers later before subject [] whole_is g v = All-nil (λ (a : Attestation). Counts backers a.signer subject)
genuine_counts backers later before subject (a ∷ list) whole_is g v =
    let G = IsOwnOrSent backers.setting.setup before subject in
    let V = λ (x : Attestation). (x.signer < members_of backers.setting.setup) × (keyed_verifies backers.setting.setup.key_base (members_of backers.setting.setup) subject x ≡ true) in
    let here : Counts backers a.signer subject = elim (All-head G a list g (All-head V a list v).1) [
      | inl f ↦ inl f
      | inr h ↦ inr (subst (λ xs. HasVoted xs a.signer subject) (sym whole_is) (voted_later later before a.signer subject h))
    ] in
    All-cons (λ (x : Attestation). Counts backers x.signer subject) a list here
    (genuine_counts backers later before subject list whole_is (All-tail G a list g) (All-tail V a list v))

-- a certificate that a response carries keeps to its types
response_fits : (bytes : List ℕ) (c : Certificate) → IsBytes bytes → Contains (certificate_on channels.Resolver bytes) c → FitsCertificate c
response_fits bytes c b k = at (whole resolver_message bytes) refl k
  where
    inner : (ys : List ℕ) (r : Result Certificate DecodeError) → whole format.certificate ys ≡ r → IsBytes ys → Contains (read_certificate r) c → FitsCertificate c
    inner ys (Ok x) e f h = elim (Contains-cons_cases x [] c h) [
      | inl same ↦ subst FitsCertificate same (whole_takes format.certificate FitsCertificate certificate_is ys x f e).1
      | inr r ↦ absurd (not_in_empty c r)
    ]
    inner ys (Err error) e f h = absurd (not_in_empty c h)

    carried : (body : ResolverBody) → FitsBody body → Contains (in_body body) c → FitsCertificate c
    carried (bodies.Response ys) f h = inner ys (whole format.certificate ys) refl f.0 h
    carried (bodies.Request view) f h = absurd (not_in_empty c h)
    carried bodies.Error f h = absurd (not_in_empty c h)

    at : (r : Result ResolverMessage DecodeError) → whole resolver_message bytes ≡ r → Contains (in_response r) c → FitsCertificate c
    at (Ok m) e h = carried m.body (whole_takes resolver_message FitsResolverMessage resolver_message_is bytes m b e).1.1 h
    at (Err error) e h = absurd (not_in_empty c h)

tested_on : (backers : Backers) (later before : List Noted) (sender : ℕ) (channel : Channel) (bytes : List ℕ) → backers.noted ≡ later ++ before → Contains (faulty_of backers.setting.setup) sender → IsBytes bytes
    → PassesOn backers.setting.setup before channel bytes → FineOn backers sender channel bytes
tested_on backers later before sender channels.Vote bytes whole_is f b t = λ v e is. (inl (subst (Contains (faulty_of backers.setting.setup)) is f), read_fits bytes v b e)
tested_on backers later before sender channels.Certificate bytes whole_is f b t = λ c e v.
    let n = members_of backers.setting.setup in
    let verifies = keyed_verifies backers.setting.setup.key_base n (certificate_subject c) in
    let list = certificate_signatures c in
    let parts = certified_parts verifies n list v in
    record {
      verifies = v;
      fits = (whole_takes format.certificate FitsCertificate certificate_is bytes c b e).1;
      backed = genuine_counts backers later before (certificate_subject c) list whole_is (t c e) (each_verifies verifies n list parts.each);
    }
tested_on backers later before sender channels.Resolver bytes whole_is f b t = λ c k v.
    let n = members_of backers.setting.setup in
    let verifies = keyed_verifies backers.setting.setup.key_base n (certificate_subject c) in
    let list = certificate_signatures c in
    let parts = certified_parts verifies n list v in
    record {
      verifies = v;
      fits = response_fits bytes c b k;
      backed = genuine_counts backers later before (certificate_subject c) list whole_is (t c k) (each_verifies verifies n list parts.each);
    }

pub tested_fine : (backers : Backers) (later before : List Noted) (ps : List Packet) → backers.noted ≡ later ++ before → Each (λ (p : Packet). IsBytes p.bytes) ps → Each (IsTested backers.setting.setup before) ps
    → Each (IsFinePacket backers) ps
tested_fine backers later before [] whole_is b t = tt
tested_fine backers later before (p ∷ ps) whole_is b t =
    let first = t.0 in
    (tested_on backers later before p.from.member p.channel p.bytes whole_is first.from b.0 first.passes, tested_fine backers later before ps whole_is b.1 t.1)
