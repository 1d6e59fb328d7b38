-- The votes that an honest member sent are signed by it, so a certificate is backed by the signed votes themselves.
use Rattle.std.proofs.Common.{◌≡◌, ℕ, ◌^◌, ◌<◌, ◌++◌, ◌⊎◌, Bool, true, false, List, [], ◌∷◌, All, Contains, Some, Ok, refl, sym, ap, ◌∙◌, subst, inl, inr, arith, if◌then◌else◌}
use Rattle.std.proofs.lemmas.List.Elements.{All-nil, All-cons, All-head, All-tail, Contains-append_cases}
use Rattle.std.proofs.lemmas.Slice.Eq.{bytes_eq-Decides}
use Rattle.simplex_values.specs.declared.plan.Channel.TheVariants as channels
use Rattle.simplex_values.specs.declared.plan.Recipients.{Recipients}
use Rattle.simplex_values.specs.declared.proposal.Subject.{Subject}
use Rattle.simplex_wire.specs.declared.attestation.Attestation.{Attestation}
use Rattle.simplex_wire.specs.declared.certificate.Certificate.{Certificate}
use Rattle.simplex_wire.specs.declared.vote.Nullify.{Nullify}
use Rattle.simplex_wire.specs.declared.vote.Vote.{Vote}
use Rattle.simplex_wire.specs.declared.vote.Vote.TheVariants as votes
use Rattle.simplex_wire.specs.Fields.{vote_subject, vote_attestation, certificate_subject, certificate_signatures}
use Rattle.simplex_wire.specs.Fits.{FitsVote}
use Rattle.simplex_wire.specs.Format.{whole}
use Rattle.simplex_wire.specs.Message as format
use Rattle.simplex_wire.proofs.Bytes.{ok_is}
use Rattle.simplex_wire.proofs.Formats.{whole_again}
use Rattle.simplex_wire.proofs.Messages.{vote_is}
use Rattle.simplex_types.specs.Keyed.{signature_of, keyed_attests, keyed_verifies}
use Rattle.simplex_messages.specs.declared.call.Call.{Call}
use Rattle.simplex_messages.specs.declared.call.Call.TheVariants as calls
use Rattle.simplex_transcript.specs.declared.node.Node.{Node}
use Rattle.simplex_transcript.specs.declared.setup.Setup.{Setup}
use Rattle.model_run.specs.Setting.{Setting}
use Rattle.model_run.specs.Kinds.{is_faulty_member}
use Rattle.model_run.specs.Life.{Noted, is_of}
use Rattle.model_run.specs.Members.{members_of, rules_of}
use Rattle.model_run.specs.Wrapped.{wrapped_attests}
use Rattle.model_run.specs.Entries.{node_of}
use Rattle.law_agreement.proofs.ListFacts.{not_in_empty, Contains-cons_cases}
use Rattle.law_member.specs.Storing.{record_of_vote, IsRepeated, IsSigned, IsLow, IsOwn}
use Rattle.law_member.specs.Wire.{Fits}
use Rattle.law_run.specs.Faulty.{faulty_of}
use Rattle.law_run.specs.Histories.{AreStored, calls_of}
use Rattle.law_run.specs.Sayings.{Each}
use Rattle.law_run.proofs.Members.{faulty_listed, unfaulty_kind}
use Rattle.law_run.proofs.Nodes.{node_lives}
use Rattle.law_run.proofs.Telling.{some_is}
use Rattle.law_run.specs.Backed.{IsVerifying, IsBackedIn, AreBacked}
use Rattle.law_run.specs.Fitting.{CallFits, RecordFits, AreTyped}
use Rattle.law_run.specs.MostlyHonest.{IsMostlyHonest}
use Rattle.law_run.specs.Voting.{sent_votes, HasSigned}
use Rattle.law_run.proofs.Backers.{Counts}
use Rattle.law_run.proofs.BackingEpochs.{rules_epoch}
use Rattle.law_run.proofs.Good.{both, certified_parts, each_verifies}
use Rattle.law_run.proofs.Packets.{fits_vote}
use Rattle.law_run.proofs.Signing.{plain_attests, keyed_own}
use Rattle.law_run.proofs.Standing.{standing_good}
use Rattle.law_run.proofs.Worlds.{backers_of, fine_of, earlier, vote_went_out, low_fits, find, floors_hold}

-- ---- lists

split_at : {A : Type 0} (xs : List A) (x : A) → Contains xs x → (before : List A) × (behind : List A) × (xs ≡ before ++ (x ∷ behind))
split_at [] x k = absurd (not_in_empty x k)
split_at (y ∷ xs) x k =
    elim (Contains-cons_cases y xs x k) [
      | inl e ↦ ([], xs, ap (λ z. z ∷ xs) e)
      | inr r ↦ (let s = split_at xs x r in (y ∷ s.0, s.1, ap (λ zs. y ∷ zs) s.2))
    ]

each_front : {A : Type 0} (P : A → Type 0) (xs ys : List A) → Each P (xs ++ ys) → Each P xs
each_front P [] ys h = tt
each_front P (x ∷ xs) ys h = (h.0, each_front P xs ys h.1)

each_at : {A : Type 0} (P : A → Type 0) (xs : List A) (y : A) (ys : List A) → Each P (xs ++ (y ∷ ys)) → P y
each_at P [] y ys h = h.0
each_at P (x ∷ xs) y ys h = each_at P xs y ys h.1

-- ---- an own vote that went out keeps to its types

record_subject : (w : Vote) → RecordFits (record_of_vote w) → Fits (vote_subject w)
record_subject (votes.Notarize v) h = h
record_subject (votes.Nullify v) h = h
record_subject (votes.Finalize v) h = h

repeated_fits : (setting : Setting) (member : ℕ) (w : Vote) (Earlier : Nullify → Type 0) → setting.setup.epoch < 2 ^ 64 → IsRepeated Earlier w → IsLow (rules_of setting member 0) w → Fits (vote_subject w)
repeated_fits setting member (votes.Notarize v) Earlier epoch r l = absurd r
repeated_fits setting member (votes.Finalize v) Earlier epoch r l = absurd r
repeated_fits setting member (votes.Nullify v) Earlier epoch r l = low_fits setting.setup.epoch v.round epoch (l.0 ∙ rules_epoch setting member 0) l.1

-- the vote that went out with these bytes
pub record IsOwnSent (setting : Setting) (member : ℕ) (bytes : List ℕ) : Type 0 where
  pub vote : Vote
  pub spelled : bytes ≡ format.vote.spelling vote
  pub own : IsOwn (rules_of setting member 0) vote
  pub fits : Fits (vote_subject vote)

pub went_own : (setting : Setting) (node : Node) (noted : List Noted) (to : Recipients) (bytes : List ℕ) → setting.setup.epoch < 2 ^ 64 → AreStored setting node noted → AreTyped noted
    → Contains (calls_of node noted) (calls.Send channels.Vote to bytes) → IsOwnSent setting node.member bytes
unfolding calls_of AreStored
went_own setting node [] to bytes epoch stored typed k = absurd (not_in_empty _ k)
went_own setting node (noted ∷ before) to bytes epoch stored typed k = at (is_of node noted.event) refl k (went_own setting node before to bytes epoch stored.1 typed.1)
  where
    c : Call
    c = calls.Send channels.Vote to bytes

    now : is_of node noted.event ≡ true → Contains noted.entry.calls c → IsOwnSent setting node.member bytes
    now of h =
        let s = split_at noted.entry.calls c h in
        let x = stored.0 of s.0 s.1 to bytes s.2 in
        let entry = typed.0 in
        let fit : Each CallFits (s.0 ++ (c ∷ s.1)) = subst (Each CallFits) s.2 entry.calls in
        record {
          vote = x.0;
          spelled = x.1;
          own = x.3;
          fits = elim x.2 [
            | inl st ↦ record_subject x.0 (each_at CallFits st.before _ _ (subst (Each CallFits) st.place (each_front CallFits s.0 (c ∷ s.1) fit)))
            | inr r ↦ (let own = x.3 in repeated_fits setting node.member x.0 _ epoch r own.1)
          ];
        }

    at : (b : Bool) → is_of node noted.event ≡ b → Contains (if b then calls_of node before ++ noted.entry.calls else calls_of node before) c
        → (Contains (calls_of node before) c → IsOwnSent setting node.member bytes) → IsOwnSent setting node.member bytes
    at true e h old = elim (Contains-append_cases (calls_of node before) noted.entry.calls c h) [ inl early ↦ old early | inr new ↦ now e new ]
    at false e h old = old h

-- ---- it is signed by the member

unfaulty_member : (setup : Setup) (member : ℕ) → ¬ (Contains (faulty_of setup) member) → is_faulty_member setup member ≡ false
unfaulty_member setup member honest = by (is_faulty_member setup member) refl
  where
    by : (b : Bool) → is_faulty_member setup member ≡ b → is_faulty_member setup member ≡ false
    by true e = absurd (honest (faulty_listed setup member e))
    by false e = e

honest_signed : (setting : Setting) (member : ℕ) (v : Vote) → is_faulty_member setting.setup member ≡ false → IsSigned (rules_of setting member 0) v → keyed_attests setting.setup.key_base (Some member) (vote_subject v) ≡ Some (vote_attestation v)
unfolding rules_of
honest_signed setting member v h e =
    let keyed = keyed_attests setting.setup.key_base (Some member) in
    let verifies = keyed_verifies setting.setup.key_base (members_of setting.setup) in
    sym (plain_attests keyed verifies (vote_subject v)) ∙ subst (λ kind. wrapped_attests kind keyed verifies (vote_subject v) ≡ Some (vote_attestation v)) (unfaulty_kind setting.setup member h) e

-- a member's attestation
abbrev pub own_attestation : Setup → ℕ → Subject → Attestation
own_attestation setup member subject = record { signer = member; signature = signature_of setup.key_base member subject }

keyed_is : (setup : Setup) (member : ℕ) (subject : Subject) (a : Attestation) → keyed_attests setup.key_base (Some member) subject ≡ Some a → a ≡ own_attestation setup member subject
unfolding keyed_attests
keyed_is setup member subject a e = sym (some_is (own_attestation setup member subject) a e)

-- what is read of its bytes is that vote
module _ (setting : Setting) (member : ℕ) (below : member < members_of setting.setup) (few : members_of setting.setup < 2 ^ 32) (honest : ¬ (Contains (faulty_of setting.setup) member)) where
  signed_of : (bytes : List ℕ) (s : IsOwnSent setting member bytes) → keyed_attests setting.setup.key_base (Some member) (vote_subject s.vote) ≡ Some (vote_attestation s.vote)
  signed_of bytes s = (let own = s.own in honest_signed setting member s.vote (unfaulty_member setting.setup member honest) own.0)

  pub read_of : (bytes : List ℕ) (s : IsOwnSent setting member bytes) → whole format.vote bytes ≡ Ok s.vote
  read_of bytes s =
      let fit = fits_vote s.vote s.fits (keyed_own setting.setup.key_base member (members_of setting.setup) (vote_subject s.vote) (vote_attestation s.vote) below few (signed_of bytes s)).1 in
      ap (whole format.vote) s.spelled ∙ whole_again format.vote FitsVote vote_is s.vote fit

  pub attested : (bytes : List ℕ) (s : IsOwnSent setting member bytes) (v : Vote) → whole format.vote bytes ≡ Ok v → vote_attestation v ≡ own_attestation setting.setup member (vote_subject v)
  attested bytes s v e =
      let same : s.vote ≡ v = ok_is s.vote v (sym (read_of bytes s) ∙ e) in
      subst (λ (w : Vote). vote_attestation w ≡ own_attestation setting.setup member (vote_subject w)) same (keyed_is setting.setup member (vote_subject s.vote) (vote_attestation s.vote) (signed_of bytes s))

-- ---- backed by the signed votes

module _ (setting : Setting) (noted : List Noted) (o : IsMostlyHonest setting noted) where
  wider : (n : ℕ) → n < 2 ^ 16 → n < 2 ^ 32
  wider n h = omega (arith, h)

  pub vote_own : (member : ℕ) (v : Vote) → member < members_of setting.setup → ¬ (Contains (faulty_of setting.setup) member) → Contains (sent_votes noted member) v → vote_attestation v ≡ own_attestation setting.setup member (vote_subject v)
  vote_own member v below honest k =
      let w = vote_went_out setting noted member v o.ran honest k in
      let lived = node_lives setting noted (node_of member) o.term honest o.ran (floors_hold setting noted o) in
      attested setting member below (wider (members_of setting.setup) o.not_many) honest w.bytes (went_own setting (node_of member) noted w.to w.bytes o.epoch lived.stored o.typed w.call) v w.read

  -- a signature that verifies is the member's
  verified_is : (base n : ℕ) (subject : Subject) (a : Attestation) → keyed_verifies base n subject a ≡ true → a ≡ record { signer = a.signer; signature = signature_of base a.signer subject }
  unfolding keyed_verifies
  verified_is base n subject a e =
      ap (λ (s : List ℕ). record { signer = a.signer; signature = s }) ((bytes_eq-Decides a.signature (signature_of base a.signer subject)).0 (both _ _ e).1)

  signed_or_faulty : (subject : Subject) (a : Attestation) → a.signer < members_of setting.setup → keyed_verifies setting.setup.key_base (members_of setting.setup) subject a ≡ true → Counts (backers_of setting noted) a.signer subject
      → Contains (faulty_of setting.setup) a.signer ⊎ HasSigned noted subject a
  signed_or_faulty subject a below v (inl bad) = inl bad
  signed_or_faulty subject a below v (inr h) = elim (find (faulty_of setting.setup) a.signer) [
    | inl bad ↦ inl bad
    | inr honest ↦ inr (
      h.0,
      h.1,
      h.2,
      vote_own a.signer h.0 below honest h.1 ∙ ap (own_attestation setting.setup a.signer) h.2 ∙ sym (verified_is setting.setup.key_base (members_of setting.setup) subject a v),
    )
  ]

  each_signed : (subject : Subject) (list : List Attestation)
      → All (λ (a : Attestation). (a.signer < members_of setting.setup) × (keyed_verifies setting.setup.key_base (members_of setting.setup) subject a ≡ true)) list
      → All (λ (a : Attestation). Counts (backers_of setting noted) a.signer subject) list → All (λ (a : Attestation). Contains (faulty_of setting.setup) a.signer ⊎ HasSigned noted subject a) list
  each_signed subject [] v h = All-nil (λ (a : Attestation). Contains (faulty_of setting.setup) a.signer ⊎ HasSigned noted subject a)
  each_signed subject (a ∷ list) v h =
      let V = λ (x : Attestation). (x.signer < members_of setting.setup) × (keyed_verifies setting.setup.key_base (members_of setting.setup) subject x ≡ true) in
      let C = λ (x : Attestation). Counts (backers_of setting noted) x.signer subject in
      let S = λ (x : Attestation). Contains (faulty_of setting.setup) x.signer ⊎ HasSigned noted subject x in
      let first = All-head V a list v in
      All-cons S a list (signed_or_faulty subject a first.0 first.1 (All-head C a list h)) (each_signed subject list (All-tail V a list v) (All-tail C a list h))

  pub signed_backed : (c : Certificate) → IsVerifying setting.setup c → All (λ (a : Attestation). Counts (backers_of setting noted) a.signer (certificate_subject c)) (certificate_signatures c) → IsBackedIn setting.setup noted c
  signed_backed c v h =
      let n = members_of setting.setup in
      let verifies = keyed_verifies setting.setup.key_base n (certificate_subject c) in
      let parts = certified_parts verifies n (certificate_signatures c) v in
      each_signed (certificate_subject c) (certificate_signatures c) (each_verifies verifies n (certificate_signatures c) parts.each) h

pub run_backed : (setting : Setting) (noted : List Noted) → IsMostlyHonest setting noted → AreBacked setting.setup noted
unfolding AreBacked
run_backed setting [] o = tt
run_backed setting (noted ∷ before) o =
    let backers = backers_of setting (noted ∷ before) in
    let fine = fine_of setting (noted ∷ before) o in (
      (λ c k v. (let good = standing_good backers noted c fine.said.0 fine.packets.0 k v in signed_backed setting (noted ∷ before) o c v good.backed)),
      run_backed setting before (earlier setting noted before o),
    )
