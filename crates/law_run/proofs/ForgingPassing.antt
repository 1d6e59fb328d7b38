-- What is genuine is not forged.
use Rattle.std.proofs.Common.{◌≡◌, ℕ, ◌&&◌, ◌||◌, not, Bool, true, false, List, [], ◌∷◌, map, filter, find, All, Contains, Option, Some, None, Result, Ok, Err, inl, inr, refl, sym, ap, slice_get, bytes_eq, arith, ◌∙◌, subst, if◌then◌else◌}
use Rattle.std.specs.List.{flat_map, filter_map, list_any}
use Rattle.std.specs.Option.{option_map_or}
use Rattle.std.specs.Result.{result_ok}
use Rattle.std.proofs.lemmas.List.Elements.{All-head, All-tail, Contains-append_cases, Contains-append_left, Contains-append_right}
use Rattle.std.proofs.lemmas.Bool.Decides.{nat_tests}
use Rattle.std.proofs.lemmas.Grind.{common_steps}
use Rattle.std.proofs.lemmas.Slice.Eq.{bytes_eq-Decides}
use Rattle.simplex_values.specs.declared.plan.Channel.{Channel}
use Rattle.simplex_values.specs.declared.plan.Channel.TheVariants as channels
use Rattle.simplex_values.specs.declared.proposal.Proposal.{Proposal}
use Rattle.simplex_values.specs.declared.proposal.Subject.{Subject}
use Rattle.simplex_values.specs.declared.proposal.Subject.TheVariants as subjects
use Rattle.simplex_values.specs.declared.round.Round.{Round}
use Rattle.simplex_values.specs.Proposal.{is_same_proposal, is_same_round}
use Rattle.simplex_wire.specs.declared.attestation.Attestation.{Attestation}
use Rattle.simplex_wire.specs.declared.certificate.Certificate.{Certificate}
use Rattle.simplex_wire.specs.declared.error.DecodeError.{DecodeError}
use Rattle.simplex_wire.specs.declared.resolver.ResolverBody.{ResolverBody}
use Rattle.simplex_wire.specs.declared.resolver.ResolverBody.TheVariants as bodies
use Rattle.simplex_wire.specs.declared.resolver.ResolverMessage.{ResolverMessage}
use Rattle.simplex_wire.specs.declared.vote.Vote.{Vote}
use Rattle.simplex_wire.specs.Fields.{vote_subject, vote_attestation, certificate_subject, certificate_signatures}
use Rattle.simplex_wire.specs.Format.{whole}
use Rattle.simplex_wire.specs.Message as format
use Rattle.simplex_wire.specs.ResolverMessage.{resolver_message}
use Rattle.simplex_types.specs.Keyed.{keyed_verifies}
use Rattle.simplex_round.specs.Votes.{is_same_subject}
use Rattle.simplex_transcript.specs.declared.entry.Entry.{Entry}
use Rattle.simplex_transcript.specs.declared.entry.Packet.{Packet}
use Rattle.simplex_transcript.specs.declared.setup.Setup.{Setup}
use Rattle.simplex_transcript.specs.declared.setup.MemberKind.{MemberKind}
use Rattle.model_run.specs.Kinds.{members_of, is_honest, is_faulty, is_faulty_member, is_same_node, node_of}
use Rattle.model_run.specs.Life.{Noted}
use Rattle.model_run.specs.SentVotes.{is_for_votes, vote_sent, has_sent}
use Rattle.model_run.specs.SentVotes as sent
use Rattle.model_run.specs.Forged.{Signed, signed, signed_in_vote, signed_in_certificate, signed_in_body, signed_in_message, signed_in, is_forged, signed_by_faulty, first_forged}
use Rattle.law_agreement.proofs.ListFacts.{not_in_empty, Contains-here, Contains-there, Contains-cons_cases}
use Rattle.law_run.specs.Sayings.{Each}
use Rattle.law_run.proofs.Further.{same_self, same_node}
use Rattle.law_run.proofs.Members.{listed_faulty}
use Rattle.law_run.proofs.Speaking.{Each-append}
use Rattle.law_run.specs.Backed.{read_certificate, in_body, in_response}
use Rattle.law_run.specs.Voting.{read_vote, vote_on, vote_in, sent_votes, HasVoted}
use Rattle.law_run.specs.Passing.{IsOwnOrSent, PassesOn, PassesFrom}
use Rattle.law_run.proofs.Testing.{NoneForged}
use Rattle.law_run.proofs.Worlds.{in_flat_map}

-- ---- whom the packets show to have sent a vote, the run's test finds to have sent it

vote_found : (member : ℕ) (p : Packet) (v : Vote) → Contains (vote_in member p) v → vote_sent member p ≡ Some v
vote_found member p v k = from (is_same_node (node_of member) p.from) refl k
  where
    reading : (r : Result Vote DecodeError) → Contains (read_vote r) v → result_ok r ≡ Some v
    reading (Ok w) h = elim (Contains-cons_cases w [] v h) [ inl e ↦ ap Some e | inr r ↦ absurd (not_in_empty v r) ]
    reading (Err error) h = absurd (not_in_empty v h)

    on : (c : Channel) → Contains (vote_on c p.bytes) v → (if is_for_votes c && true then result_ok (whole format.vote p.bytes) else None) ≡ Some v
    on channels.Vote h = reading (whole format.vote p.bytes) h
    on channels.Certificate h = absurd (not_in_empty v h)
    on channels.Resolver h = absurd (not_in_empty v h)

    from : (b : Bool) → is_same_node (node_of member) p.from ≡ b → Contains (if b then vote_on p.channel p.bytes else []) v → vote_sent member p ≡ Some v
    from true e h =
        let turned : is_same_node p.from (node_of member) ≡ true = subst (λ n. is_same_node n (node_of member) ≡ true) (same_node (node_of member) p.from e) (same_self (node_of member)) in
        subst (λ (b : Bool). (if is_for_votes p.channel && b then result_ok (whole format.vote p.bytes) else None) ≡ Some v) (sym turned) (on p.channel h)
    from false e h = absurd (not_in_empty v h)

in_filter_map : {A B : Type 0} (f : A → Option B) (xs : List A) (x : A) (y : B) → Contains xs x → f x ≡ Some y → Contains (filter_map f xs) y
in_filter_map f [] x y k e = absurd (not_in_empty x k)
in_filter_map {A} {B} f (z ∷ xs) x y k e = at (f z) refl (in_filter_map f xs x y)
  where
    none : f z ≡ None → filter_map f (z ∷ xs) ≡ filter_map f xs
    none h = grind (arith, nat_tests, common_steps, h)

    some : (b : B) → f z ≡ Some b → filter_map f (z ∷ xs) ≡ b ∷ filter_map f xs
    some b h = grind (arith, nat_tests, common_steps, h)

    first : (b : B) → f z ≡ Some b → z ≡ x → b ≡ y
    first b h same = cc (h, same, e)

    never : f z ≡ None → z ≡ x → ⊥
    never h same = cc (h, same, e)

    at : (o : Option B) → f z ≡ o → (Contains xs x → f x ≡ Some y → Contains (filter_map f xs) y) → Contains (filter_map f (z ∷ xs)) y
    at None h more = subst (λ ys. Contains ys y) (sym (none h)) (elim (Contains-cons_cases z xs x k) [ inl same ↦ absurd (never h same) | inr r ↦ more r e ])
    at (Some b) h more =
        subst (λ ys. Contains ys y) (sym (some b h))
        (elim (Contains-cons_cases z xs x k) [
          | inl same ↦ subst (Contains (b ∷ filter_map f xs)) (first b h same) (Contains-here b (filter_map f xs))
          | inr r ↦ Contains-there b (filter_map f xs) y (more r e)
        ])

votes_found : (before : List Noted) (member : ℕ) (v : Vote) → Contains (sent_votes before member) v → Contains (sent.sent_votes before member) v
unfolding sent_votes sent.sent_votes
votes_found [] member v k = absurd (not_in_empty v k)
votes_found (noted ∷ before) member v k =
    let new = filter_map (vote_sent member) noted.entry.packets in
    elim (Contains-append_cases (sent_votes before member) (flat_map (vote_in member) noted.entry.packets) v k) [
      | inl old ↦ Contains-append_right new (sent.sent_votes before member) v (votes_found before member v old)
      | inr here ↦
          let p = in_flat_map (vote_in member) noted.entry.packets v here in
          Contains-append_left new (sent.sent_votes before member) v (in_filter_map (vote_sent member) noted.entry.packets p.0 v p.1 (vote_found member p.0 v p.2))
    ]

any_there : {A : Type 0} (test : A → Bool) (xs : List A) (x : A) → Contains xs x → test x ≡ true → list_any test xs ≡ true
any_there test [] x k e = absurd (not_in_empty x k)
any_there test (y ∷ xs) x k e = at (test y) refl (λ r. any_there test xs x r e)
  where
    at : (b : Bool) → test y ≡ b → (Contains xs x → list_any test xs ≡ true) → (b || list_any test xs) ≡ true
    at true h more = refl
    at false h more = elim (Contains-cons_cases y xs x k) [ inl same ↦ cc (h, same, e) | inr r ↦ more r ]

same_round : (r : Round) → is_same_round r r ≡ true
same_round r = grind (arith, nat_tests, common_steps)

same_proposal : (p : Proposal) → is_same_proposal p p ≡ true
same_proposal p = (let e : bytes_eq p.payload p.payload ≡ true = (bytes_eq-Decides p.payload p.payload).1 refl in grind (arith, nat_tests, common_steps, e))

same_subject : (s : Subject) → is_same_subject s s ≡ true
same_subject (subjects.Notarize p) = same_proposal p
same_subject (subjects.Nullify r) = same_round r
same_subject (subjects.Finalize p) = same_proposal p

voted_sent : (before : List Noted) (member : ℕ) (subject : Subject) → HasVoted before member subject → has_sent before member subject ≡ true
unfolding has_sent
voted_sent before member subject h =
    any_there (λ vote. is_same_subject (vote_subject vote) subject) (sent.sent_votes before member) h.0 (votes_found before member h.0 h.1)
    (subst (λ s. is_same_subject (vote_subject h.0) s ≡ true) h.2 (same_subject (vote_subject h.0)))

-- ---- an attestation

-- a faulty member is not honest
not_both : (setup : Setup) (m : ℕ) → is_faulty_member setup m ≡ true → is_honest setup m ≡ false
not_both setup m e = at (slice_get setup.members m) e
  where
    at : (o : Option MemberKind) → option_map_or is_faulty o false ≡ true → option_map_or (λ kind. not (is_faulty kind)) o false ≡ false
    at None h = cc
    at (Some kind) h = ap not h

genuine_unforged : (setup : Setup) (before : List Noted) (subject : Subject) (a : Attestation) → IsOwnOrSent setup before subject a → is_forged setup before (signed subject a) ≡ false
unfolding is_forged
genuine_unforged setup before subject a g = at (keyed_verifies setup.key_base (members_of setup) subject a) refl
  where
    h : Bool
    h = is_honest setup a.signer

    s : Bool
    s = has_sent before a.signer subject

    unsigned : (b : Bool) → (b && false && not s) ≡ false
    unsigned true = refl
    unsigned false = refl

    had : (b : Bool) → s ≡ true → (b && true && not s) ≡ false
    had true e = ap not e
    had false e = refl

    at : (v : Bool) → keyed_verifies setup.key_base (members_of setup) subject a ≡ v → (h && v && not s) ≡ false
    at false e = unsigned h
    at true e = elim (g e) [
      | inl bad ↦ ap (λ (b : Bool). b && true && not s) (not_both setup a.signer (listed_faulty setup a.signer bad))
      | inr voted ↦ had h (voted_sent before a.signer subject voted)
    ]

-- ---- bytes

module _ (setup : Setup) (before : List Noted) where
  each_unforged : (subject : Subject) (list : List Attestation) → All (IsOwnOrSent setup before subject) list → NoneForged setup before (map (signed subject) list)
  each_unforged subject [] g = tt
  each_unforged subject (a ∷ list) g =
      (genuine_unforged setup before subject a (All-head (IsOwnOrSent setup before subject) a list g), each_unforged subject list (All-tail (IsOwnOrSent setup before subject) a list g))

  abbrev AllGenuine : Certificate → Type 0
  AllGenuine c = All (IsOwnOrSent setup before (certificate_subject c)) (certificate_signatures c)

  vote_unforged : (r : Result Vote DecodeError) → ((v : Vote) → r ≡ Ok v → IsOwnOrSent setup before (vote_subject v) (vote_attestation v)) → NoneForged setup before (signed_in_vote r)
  vote_unforged (Ok v) g = (genuine_unforged setup before (vote_subject v) (vote_attestation v) (g v refl), tt)
  vote_unforged (Err error) g = tt

  certificate_unforged : (r : Result Certificate DecodeError) → ((c : Certificate) → Contains (read_certificate r) c → AllGenuine c) → NoneForged setup before (signed_in_certificate r)
  certificate_unforged (Ok c) g = each_unforged (certificate_subject c) (certificate_signatures c) (g c (Contains-here c []))
  certificate_unforged (Err error) g = tt

  body_unforged : (body : ResolverBody) → ((c : Certificate) → Contains (in_body body) c → AllGenuine c) → NoneForged setup before (signed_in_body body)
  body_unforged (bodies.Response bytes) g = certificate_unforged (whole format.certificate bytes) g
  body_unforged (bodies.Request view) g = tt
  body_unforged bodies.Error g = tt

  message_unforged : (r : Result ResolverMessage DecodeError) → ((c : Certificate) → Contains (in_response r) c → AllGenuine c) → NoneForged setup before (signed_in_message r)
  message_unforged (Ok message) g = body_unforged message.body g
  message_unforged (Err error) g = tt

  was_read : (r : Result Certificate DecodeError) (c : Certificate) → Contains (read_certificate r) c → r ≡ Ok c
  was_read (Ok x) c k = elim (Contains-cons_cases x [] c k) [ inl e ↦ ap Ok e | inr r ↦ absurd (not_in_empty c r) ]
  was_read (Err error) c k = absurd (not_in_empty c k)

  passing_unforged : (channel : Channel) (bytes : List ℕ) → PassesOn setup before channel bytes → NoneForged setup before (signed_in channel bytes)
  unfolding signed_in
  passing_unforged channels.Vote bytes p = vote_unforged (whole format.vote bytes) p
  passing_unforged channels.Certificate bytes p = certificate_unforged (whole format.certificate bytes) (λ c k. p c (was_read (whole format.certificate bytes) c k))
  passing_unforged channels.Resolver bytes p = message_unforged (whole resolver_message bytes) p

  -- ---- packets

  packets_unforged : (ps : List Packet) → Each (PassesFrom setup before) ps → NoneForged setup before (signed_by_faulty setup ps)
  packets_unforged [] h = tt
  packets_unforged (p ∷ ps) h = at (is_faulty_member setup p.from.member) refl (packets_unforged ps h.1)
    where
      kept : List Packet
      kept = filter (λ (q : Packet). is_faulty_member setup q.from.member) ps

      at : (b : Bool) → is_faulty_member setup p.from.member ≡ b → NoneForged setup before (signed_by_faulty setup ps)
          → NoneForged setup before (flat_map (λ (q : Packet). signed_in q.channel q.bytes) (if b then p ∷ kept else kept))
      at true e rest = Each-append (λ (s : Signed). is_forged setup before s ≡ false) (signed_in p.channel p.bytes) (signed_by_faulty setup ps) (passing_unforged p.channel p.bytes (h.0 e)) rest
      at false e rest = rest

  none_there : {A : Type 0} (test : A → Bool) (xs : List A) → Each (λ (x : A). test x ≡ false) xs → find test xs ≡ None
  none_there test [] h = refl
  none_there test (x ∷ xs) h = ap (λ (b : Bool). if b then Some x else find test xs) h.0 ∙ none_there test xs h.1

  pub passing_entry : (entry : Entry) → Each (PassesFrom setup before) entry.packets → first_forged setup before entry ≡ None
  unfolding first_forged
  passing_entry entry h = none_there (is_forged setup before) (signed_by_faulty setup entry.packets) (packets_unforged entry.packets h)
