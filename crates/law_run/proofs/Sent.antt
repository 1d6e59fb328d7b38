-- What a member sent is the same, whether the run's test of signatures reads it or the words of a safe run do.
use Rattle.std.proofs.Common.{◌≡◌, ◌↔◌, ℕ, ◌&&◌, ◌++◌, Bool, true, false, List, [], ◌∷◌, reverse, Contains, None, Result, Ok, Err, inl, inr, refl, sym, ap, ◌∙◌, subst, if◌then◌else◌, arith, append-nil}
use Rattle.std.specs.List.{flat_map, filter_map, cons_option}
use Rattle.std.specs.Result.{result_ok}
use Rattle.std.proofs.lemmas.Bool.Decides.{nat_tests}
use Rattle.std.proofs.lemmas.Grind.{common_steps}
use Rattle.std.proofs.lemmas.List.{reverse-append}
use Rattle.std.proofs.lemmas.List.Concat.{flat_map-append}
use Rattle.std.proofs.lemmas.List.Elements.{Contains-append_cases, Contains-append_left, Contains-append_right}
use Rattle.std.proofs.lemmas.List.Folds.{Any-from_list_any, list_any-from_Any}
use Rattle.std.proofs.lemmas.Slice.Eq.{bytes_eq-Decides}
use Rattle.std.specs.Str.{bytes_eq}
use Rattle.simplex_values.specs.declared.plan.Channel.{Channel}
use Rattle.simplex_values.specs.declared.plan.Channel.TheVariants as channels
use Rattle.simplex_values.specs.declared.proposal.Proposal.{Proposal}
use Rattle.simplex_values.specs.declared.proposal.Subject.{Subject}
use Rattle.simplex_values.specs.declared.proposal.Subject.TheVariants as subjects
use Rattle.simplex_values.specs.declared.round.Round.{Round}
use Rattle.simplex_wire.specs.declared.error.DecodeError.{DecodeError}
use Rattle.simplex_wire.specs.declared.vote.Vote.{Vote}
use Rattle.simplex_wire.specs.Fields.{vote_subject}
use Rattle.simplex_wire.specs.Format.{whole}
use Rattle.simplex_wire.specs.Message as format
use Rattle.simplex_round.specs.Votes.{is_same_subject}
use Rattle.simplex_transcript.specs.declared.entry.Packet.{Packet}
use Rattle.simplex_transcript.specs.declared.node.Node.{Node}
use Rattle.law_member.proofs.Certifying.{subjects-same}
use Rattle.model_run.specs.Kinds.{is_same_node, node_of}
use Rattle.model_run.specs.Life.{Noted}
use Rattle.model_run.specs.SentVotes.{is_for_votes, vote_sent, has_sent}
use Rattle.model_run.specs.SentVotes as tested
use Rattle.law_agreement.proofs.ListFacts.{not_in_empty}
use Rattle.law_run.proofs.Further.{same_self, same_node}
use Rattle.law_run.specs.Voting.{read_vote, vote_on, vote_in, sent_votes, HasVoted}

-- ---- of a packet, and of an entry

pub same_both : (a b : Node) → is_same_node a b ≡ is_same_node b a
same_both a b = by (is_same_node a b) refl (is_same_node b a) refl
  where
    never : true ≡ false → ⊥
    never h = cc

    by : (x : Bool) → is_same_node a b ≡ x → (y : Bool) → is_same_node b a ≡ y → x ≡ y
    by true e true f = refl
    by false e false f = refl
    by true e false f = (let same = same_node a b e in absurd (never (sym (subst (λ n. is_same_node n a ≡ true) same (same_self a)) ∙ f)))
    by false e true f = (let same = same_node b a f in absurd (never (sym (subst (λ n. is_same_node n b ≡ true) same (same_self b)) ∙ e)))

packet_same : (member : ℕ) (p : Packet) (vs : List Vote) → cons_option (vote_sent member p) vs ≡ vote_in member p ++ vs
packet_same member p vs =
    subst (λ (b : Bool). cons_option (vote_sent member p) vs ≡ (if b then vote_on p.channel p.bytes else []) ++ vs) (same_both p.from (node_of member)) (on p.channel (is_same_node p.from (node_of member)))
  where
    reading : (r : Result Vote DecodeError) → cons_option (result_ok r) vs ≡ read_vote r ++ vs
    reading (Ok v) = refl
    reading (Err error) = refl

    on : (c : Channel) (b : Bool) → cons_option (if is_for_votes c && b then result_ok (whole format.vote p.bytes) else None) vs ≡ (if b then vote_on c p.bytes else []) ++ vs
    on channels.Vote true = reading (whole format.vote p.bytes)
    on channels.Vote false = refl
    on channels.Certificate true = refl
    on channels.Certificate false = refl
    on channels.Resolver true = refl
    on channels.Resolver false = refl

entry_same : (member : ℕ) (ps : List Packet) → filter_map (vote_sent member) ps ≡ flat_map (vote_in member) ps
entry_same member [] = refl
entry_same member (p ∷ ps) = ap (cons_option (vote_sent member p)) (entry_same member ps) ∙ packet_same member p (flat_map (vote_in member) ps)

-- ---- of all entries

abbrev test_reads : ℕ → Noted → List Vote
test_reads member noted = filter_map (vote_sent member) noted.entry.packets

-- the test reads the entries from the newest on, the words from the oldest
pub all_same : (noted : List Noted) (member : ℕ) → tested.sent_votes (reverse noted) member ≡ sent_votes noted member
unfolding tested.sent_votes sent_votes
all_same [] member = refl
all_same (noted ∷ before) member =
    ap (flat_map (test_reads member)) (reverse-append (noted ∷ []) before)
    ∙ flat_map-append (test_reads member) (reverse before) (noted ∷ [])
    ∙ ap (λ old. old ++ (test_reads member noted ++ [])) (all_same before member)
    ∙ ap (λ new. sent_votes before member ++ new) (append-nil (test_reads member noted) ∙ entry_same member noted.entry.packets)

-- so they have the same votes
in_words : (noted : List Noted) (member : ℕ) (v : Vote) → Contains (tested.sent_votes noted member) v → Contains (sent_votes noted member) v
unfolding tested.sent_votes sent_votes
in_words [] member v k = absurd (not_in_empty v k)
in_words (noted ∷ before) member v k =
    let new = flat_map (vote_in member) noted.entry.packets in
    elim (Contains-append_cases (test_reads member noted) (tested.sent_votes before member) v k) [
      | inl here ↦ Contains-append_right (sent_votes before member) new v (subst (λ vs. Contains vs v) (entry_same member noted.entry.packets) here)
      | inr old ↦ Contains-append_left (sent_votes before member) new v (in_words before member v old)
    ]

in_test : (noted : List Noted) (member : ℕ) (v : Vote) → Contains (sent_votes noted member) v → Contains (tested.sent_votes noted member) v
unfolding tested.sent_votes sent_votes
in_test [] member v k = absurd (not_in_empty v k)
in_test (noted ∷ before) member v k =
    elim (Contains-append_cases (sent_votes before member) (flat_map (vote_in member) noted.entry.packets) v k) [
      | inl old ↦ Contains-append_right (test_reads member noted) (tested.sent_votes before member) v (in_test before member v old)
      | inr here ↦ Contains-append_left (test_reads member noted) (tested.sent_votes before member) v (subst (λ vs. Contains vs v) (sym (entry_same member noted.entry.packets)) here)
    ]

-- ---- of a subject

same_round : (r : Round) → is_same_subject (subjects.Nullify r) (subjects.Nullify r) ≡ true
same_round r = grind (arith, nat_tests, common_steps)

same_proposal : (p : Proposal) → is_same_subject (subjects.Notarize p) (subjects.Notarize p) ≡ true
same_proposal p = (let e : bytes_eq p.payload p.payload ≡ true = (bytes_eq-Decides p.payload p.payload).1 refl in grind (arith, nat_tests, common_steps, e))

same_subject : (s : Subject) → is_same_subject s s ≡ true
same_subject (subjects.Notarize p) = same_proposal p
same_subject (subjects.Nullify r) = same_round r
same_subject (subjects.Finalize p) = same_proposal p

-- the test finds a vote on it exactly where the words have one
pub voted : (noted : List Noted) (member : ℕ) (subject : Subject) → has_sent noted member subject ≡ true → HasVoted noted member subject
unfolding has_sent
voted noted member subject e =
    let a = Any-from_list_any (λ v. is_same_subject (vote_subject v) subject) (tested.sent_votes noted member) e in
    (a.1, in_words noted member a.1 (a.0, a.2, a.3), subjects-same (vote_subject a.1) subject a.4)

pub found : (noted : List Noted) (member : ℕ) (subject : Subject) → HasVoted noted member subject → has_sent noted member subject ≡ true
unfolding has_sent
found noted member subject h =
    let k = in_test noted member h.0 h.1 in
    list_any-from_Any (λ v. is_same_subject (vote_subject v) subject) (tested.sent_votes noted member)
    (k.0, h.0, k.1, k.2, subst (λ s. is_same_subject (vote_subject h.0) s ≡ true) h.2 (same_subject (vote_subject h.0)))

pub test_decides : (noted : List Noted) (member : ℕ) (subject : Subject) → (has_sent noted member subject ≡ true) ↔ HasVoted noted member subject
test_decides noted member subject = (voted noted member subject, found noted member subject)
