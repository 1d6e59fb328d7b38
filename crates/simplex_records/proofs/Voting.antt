-- The votes that are kept, of one entry more.
use Rattle.std.proofs.Common.{◌≡◌, ◌≢◌, ◌<◌, ℕ, zero, suc, List, [], ◌∷◌, ◌++◌, Bool, true, false, arith, refl, sym, ap, ◌∙◌, length, get_or, set, take, ◌+◌, if◌then◌else◌, Option, Some, None}
use Rattle.std.specs.Prelude.{◌==◌, ◌&&◌, ◌||◌, not, filter_map, slice_get}
use Rattle.std.specs.List.{list_any, list_all, cons_option}
use Rattle.std.specs.Option.{option_map_or}
use Rattle.std.proofs.lemmas.Grind.{common_steps}
use Rattle.std.proofs.lemmas.List.{length_push, take_more}
use Rattle.std.proofs.lemmas.Option.{slice_get-get_or}
use Rattle.std.proofs.lemmas.List.Folds.{list_any-append}
use Rattle.std.proofs.lemmas.List.Elements.{All-head, All-tail}
use Rattle.simplex_values.specs.declared.proposal.Subject.{Subject}
use Rattle.simplex_wire.specs.declared.vote.Vote.{Vote}
use Rattle.simplex_transcript.specs.declared.entry.Packet.{Packet}
use Rattle.simplex_transcript.specs.declared.node.Node.{Node}
use Rattle.simplex_transcript.specs.declared.setup.MemberKind.{MemberKind}
use Rattle.simplex_transcript.specs.declared.setup.Setup.{Setup}
use Rattle.model_run.specs.Kinds.{members_of, is_faulty, is_honest, are_honest, is_same_node, node_of}
use Rattle.model_run.specs.Life.{Noted}
use Rattle.model_run.specs.SentVotes.{is_for_votes, vote_sent, sent_votes, has_sent}
use Rattle.simplex_records.specs.declared.sent_votes.SentVotes.{SentVotes}
use Rattle.simplex_records.specs.declared.subjects.Subjects.{Subjects}
use Rattle.simplex_records.specs.Votes.{vote_in, is_on, has_subject, has_vote, IndexStands, VotesStand}
use Rattle.simplex_records.specs.Events.{AreFrom}

-- ---- the votes among a node's packets

none_if : (b c : Bool) (o : Option Vote) → c ≡ false → (if b && c then o else None) ≡ None
none_if true true o e = cc
none_if true false o e = refl
none_if false c o e = refl

same_if : (b c : Bool) (o : Option Vote) → c ≡ true → (if b && c then o else None) ≡ (if b then o else None)
same_if true true o e = refl
same_if true false o e = cc
same_if false c o e = refl

-- those of another node are none of the member's
pub others-votes : (member : ℕ) (node : Node) (packets : List Packet) → AreFrom node packets → is_same_node node (node_of member) ≡ false
    → filter_map (vote_sent member) packets ≡ []
others-votes member node [] from e = refl
others-votes member node (packet ∷ packets) from e =
    let here : packet.from ≡ node = All-head (λ (p : Packet). p.from ≡ node) packet packets from in
    let not_mine : is_same_node packet.from (node_of member) ≡ false = ap (λ n. is_same_node n (node_of member)) here ∙ e in
    ap (λ o. cons_option o (filter_map (vote_sent member) packets)) (none_if (is_for_votes packet.channel) (is_same_node packet.from (node_of member)) _ not_mine)
    ∙ others-votes member node packets (All-tail (λ (p : Packet). p.from ≡ node) packet packets from) e

-- those of the member's first half are all of them
pub own-votes : (member : ℕ) (node : Node) (packets : List Packet) → AreFrom node packets → is_same_node node (node_of member) ≡ true
    → filter_map (vote_sent member) packets ≡ filter_map vote_in packets
own-votes member node [] from e = refl
own-votes member node (packet ∷ packets) from e =
    let here : packet.from ≡ node = All-head (λ (p : Packet). p.from ≡ node) packet packets from in
    let mine : is_same_node packet.from (node_of member) ≡ true = ap (λ n. is_same_node n (node_of member)) here ∙ e in
    ap (λ o. cons_option o (filter_map (vote_sent member) packets)) (same_if (is_for_votes packet.channel) (is_same_node packet.from (node_of member)) _ mine)
    ∙ ap (λ votes. cons_option (vote_in packet) votes) (own-votes member node packets (All-tail (λ (p : Packet). p.from ≡ node) packet packets from) e)

-- ---- one entry more

pub sent-more : (before : List Noted) (noted : Noted) (member : ℕ) (subject : Subject)
    → has_sent (noted ∷ before) member subject ≡ (list_any (is_on subject) (filter_map (vote_sent member) noted.entry.packets) || has_sent before member subject)
unfolding has_sent sent_votes
sent-more before noted member subject = list_any-append (is_on subject) (filter_map (vote_sent member) noted.entry.packets) (sent_votes before member)

sent_none : (before : List Noted) (noted : Noted) (member : ℕ) (subject : Subject) → filter_map (vote_sent member) noted.entry.packets ≡ []
    → has_sent before member subject ≡ has_sent (noted ∷ before) member subject
sent_none before noted member subject none =
    sym (sent-more before noted member subject ∙ ap (λ votes. list_any (is_on subject) votes || has_sent before member subject) none)

-- an entry without votes of honest members
pub index-pass : (votes : SentVotes) (setup : Setup) (before : List Noted) (noted : Noted)
    → ((member : ℕ) → is_honest setup member ≡ true → filter_map (vote_sent member) noted.entry.packets ≡ [])
    → IndexStands votes setup before → IndexStands votes setup (noted ∷ before)
index-pass votes setup before noted none stand =
    record {
      base = stand.base;
      members = stand.members;
      count = stand.count;
      sent = λ member subject honest. stand.sent member subject honest ∙ sent_none before noted member subject (none member honest);
    }

pub votes-pass : (votes : Option SentVotes) (setup : Setup) (before : List Noted) (noted : Noted)
    → ((member : ℕ) → is_honest setup member ≡ true → filter_map (vote_sent member) noted.entry.packets ≡ [])
    → VotesStand votes setup before → VotesStand votes setup (noted ∷ before)
unfolding VotesStand
votes-pass None setup before noted none stand = stand
votes-pass (Some votes) setup before noted none stand = index-pass votes setup before noted none stand

-- ---- whose votes are kept

apart : (m half member : ℕ) (honest a b : Bool) → (m == member) ≡ a → (half == 0) ≡ b → (m ≡ member → honest ≡ true) → (b && honest) ≡ false → (a && b) ≡ false
apart m half member honest false b e f k g = refl
apart m half member honest true false e f k g = refl
apart m half member honest true true e f k g =
    let same : m ≡ member = grind (arith, common_steps) in
    let yes : honest ≡ true = k same in cc

-- a node that is no honest member's first half is no such half
pub not-first : (setup : Setup) (node : Node) (member : ℕ) → is_honest setup member ≡ true → (node.half == 0 && is_honest setup node.member) ≡ false
    → is_same_node node (node_of member) ≡ false
not-first setup node member honest e =
    apart node.member node.half member (is_honest setup node.member) (node.member == member) (node.half == 0) refl refl
    (λ same. ap (λ m. is_honest setup m) same ∙ honest) e

pub never : (b c : Bool) → c ≡ false → (b && c) ≡ false
never true c e = e
never false c e = refl

-- the tests of a half
pub half-of : (node : Node) → node.half ≡ 0 → (node.half == 0) ≡ true
half-of node e = grind (arith, common_steps)

pub other-half : (node : Node) (honest : Bool) → node.half ≢ 0 → (node.half == 0 && honest) ≡ false
other-half node honest e = first (node.half == 0) (grind (arith, common_steps))
  where
    first : (b : Bool) → b ≡ false → (b && honest) ≡ false
    first true e = cc
    first false e = refl

-- packets of a faulty member hold no vote of an honest one
pub faulty-votes : (setup : Setup) (node : Node) (packets : List Packet) → AreFrom node packets → is_honest setup node.member ≡ false
    → (member : ℕ) → is_honest setup member ≡ true → filter_map (vote_sent member) packets ≡ []
faulty-votes setup node packets from faulty member honest =
    others-votes member node packets from (not-first setup node member honest (never (node.half == 0) (is_honest setup node.member) faulty))

pub index-other : (votes : SentVotes) (setup : Setup) (before : List Noted) (noted : Noted) (node : Node) (packets : List Packet)
    → noted.entry.packets ≡ packets → AreFrom node packets → (node.half == 0 && is_honest setup node.member) ≡ false
    → IndexStands votes setup before → IndexStands votes setup (noted ∷ before)
index-other votes setup before noted node packets same from e stand =
    index-pass votes setup before noted
    (λ member honest. ap (λ ps. filter_map (vote_sent member) ps) same ∙ others-votes member node packets from (not-first setup node member honest e)) stand

-- ---- votes that are taken in

below_length : (test : MemberKind → Bool) (kinds : List MemberKind) (member : ℕ) → option_map_or test (slice_get kinds member) false ≡ true → member < length kinds
below_length test [] member e = cc
below_length test (kind ∷ kinds) zero e = omega arith
below_length test (kind ∷ kinds) (suc member) e = let less : member < length kinds = below_length test kinds member e in omega arith

pub honest-below : (setup : Setup) (member : ℕ) → is_honest setup member ≡ true → member < members_of setup
honest-below setup member e = below_length (λ kind. not (is_faulty kind)) setup.members member e

own_at : (before : List Noted) (noted : Noted) (node : Node) (packets : List Packet) (member : ℕ) (subject : Subject) (old new b : Bool)
    → noted.entry.packets ≡ packets → AreFrom node packets → (node.half == 0) ≡ true → (node.member == member) ≡ b
    → old ≡ has_sent before member subject
    → new ≡ (if b then list_any (is_on subject) (filter_map vote_in packets) || old else old)
    → new ≡ has_sent (noted ∷ before) member subject
own_at before noted node packets member subject old new true same from half e stand is =
    let mine : is_same_node node (node_of member) ≡ true = rw (e, half) refl in
    is
    ∙ ap (λ votes. list_any (is_on subject) votes || old) (sym (ap (λ ps. filter_map (vote_sent member) ps) same ∙ own-votes member node packets from mine))
    ∙ ap (λ o. list_any (is_on subject) (filter_map (vote_sent member) noted.entry.packets) || o) stand
    ∙ sym (sent-more before noted member subject)
own_at before noted node packets member subject old new false same from half e stand is =
    let other : is_same_node node (node_of member) ≡ false = rw e refl in
    is ∙ stand ∙ sent_none before noted member subject (ap (λ ps. filter_map (vote_sent member) ps) same ∙ others-votes member node packets from other)

pub index-own : (old new : SentVotes) (setup : Setup) (before : List Noted) (noted : Noted) (node : Node) (packets : List Packet)
    → (node.half == 0) ≡ true → is_honest setup node.member ≡ true
    → new.scheme ≡ old.scheme → length new.members.items ≡ length old.members.items
    → (node.member < length old.members.items → (at : ℕ) (s : Subject) → has_vote new.members.items at s
    ≡ (if node.member == at then list_any (is_on s) (filter_map vote_in packets) || has_vote old.members.items at s else has_vote old.members.items at s))
    → noted.entry.packets ≡ packets → AreFrom node packets
    → IndexStands old setup before → IndexStands new setup (noted ∷ before)
index-own old new setup before noted node packets half honest scheme count adds same from stand =
    let below : node.member < length old.members.items = rw stand.count (honest-below setup node.member honest) in
    record {
      base = rw scheme stand.base;
      members = rw scheme stand.members;
      count = count ∙ stand.count;
      sent = λ member subject is. own_at before noted node packets member subject (has_vote old.members.items member subject) _ (node.member == member)
          same from half refl (stand.sent member subject is) (adds below member subject);
    }

-- ---- no entry yet

some_in : (kinds : List MemberKind) → list_all (λ kind. not (is_faulty kind)) kinds ≡ false → 0 < length kinds
some_in [] e = cc
some_in (kind ∷ kinds) e = omega arith

pub some-member : (setup : Setup) → are_honest setup ≡ false → 0 < members_of setup
some-member setup e = some_in setup.members e

pub index-new : (votes : SentVotes) (setup : Setup) → votes.scheme.key_base ≡ setup.key_base → votes.scheme.participants ≡ members_of setup
    → length votes.members.items ≡ members_of setup → ((at : ℕ) (s : Subject) → has_vote votes.members.items at s ≡ false)
    → IndexStands votes setup []
unfolding has_sent sent_votes
index-new votes setup base members count none =
    record { base = base; members = members; count = count; sent = λ member subject honest. none member subject }

-- ---- one member more, and one that is set

subjects_push : (members : List Subjects) (one : Subjects) (at : ℕ) (s : Subject)
    → ((k : ℕ) → has_vote members k s ≡ false) → has_subject one s ≡ false → has_vote (members ++ one ∷ []) at s ≡ false
unfolding has_vote
subjects_push [] one zero s all here = here
subjects_push [] one (suc at) s all here = refl
subjects_push (x ∷ members) one zero s all here = all zero
subjects_push (x ∷ members) one (suc at) s all here = subjects_push members one at s (λ k. all (suc k)) here

pub members-grown : (members new : List Subjects) (one : Subjects) (count : ℕ) → new ≡ members ++ one ∷ []
    → (length members ≡ count) × ((at : ℕ) (s : Subject) → has_vote members at s ≡ false) → ((s : Subject) → has_subject one s ≡ false)
    → (length new ≡ count + 1) × ((at : ℕ) (s : Subject) → has_vote new at s ≡ false)
members-grown members new one count is all blank = (
  ap (λ ms. length ms) is ∙ length_push members one ∙ omega (arith, all.0),
  λ at s. ap (λ ms. has_vote ms at s) is ∙ subjects_push members one at s (λ k. all.1 k s) (blank s),
)

subjects_set : (members : List Subjects) (member at : ℕ) (one : Subjects) (s : Subject) (adds : Bool) (b : Bool) → member < length members → (member == at) ≡ b
    → has_subject one s ≡ (adds || has_vote members member s)
    → has_vote (set members member one) at s ≡ (if b then adds || has_vote members at s else has_vote members at s)
unfolding has_vote
subjects_set [] member at one s adds b lt e is = absurd (omega (arith, lt))
subjects_set (x ∷ members) zero zero one s adds true lt e is = is
subjects_set (x ∷ members) zero zero one s adds false lt e is = cc
subjects_set (x ∷ members) zero (suc at) one s adds true lt e is = absurd (grind (arith, common_steps, e))
subjects_set (x ∷ members) zero (suc at) one s adds false lt e is = refl
subjects_set (x ∷ members) (suc member) zero one s adds true lt e is = absurd (grind (arith, common_steps, e))
subjects_set (x ∷ members) (suc member) zero one s adds false lt e is = refl
subjects_set (x ∷ members) (suc member) (suc at) one s adds b lt e is =
    subjects_set members member at one s adds b (omega (arith, lt)) (sym (suc_same member at) ∙ e) is
  where
    suc_same : (a b : ℕ) → (suc a == suc b) ≡ (a == b)
    suc_same a b = grind (arith, common_steps)

-- the subjects of one member
pub has-member : (members : List Subjects) (member : ℕ) (one : Subjects) (s : Subject) → member < length members → one ≡ get_or members member one
    → has_subject one s ≡ has_vote members member s
unfolding has_vote
has-member members member one s lt is =
    ap (λ o. option_map_or (λ subjects. has_subject subjects s) o false) (sym (slice_get-get_or members member one lt ∙ ap (λ x. Some x) (sym is)))

pub members-set : (members : List Subjects) (member : ℕ) (old one : Subjects) (packets : List Packet) → member < length members → old ≡ get_or members member old
    → ((s : Subject) → has_subject one s ≡ (list_any (is_on s) (filter_map vote_in packets) || has_subject old s))
    → (at : ℕ) (s : Subject) → has_vote (set members member one) at s
    ≡ (if member == at then list_any (is_on s) (filter_map vote_in packets) || has_vote members at s else has_vote members at s)
members-set members member old one packets lt is adds at s =
    subjects_set members member at one s (list_any (is_on s) (filter_map vote_in packets)) (member == at) lt refl
    (adds s ∙ ap (λ b. list_any (is_on s) (filter_map vote_in packets) || b) (has-member members member old s lt is))

-- ---- one packet more

or_none : (test : Vote → Bool) (o : Option Vote) → list_any test (cons_option o []) ≡ option_map_or test o false
or_none test None = refl
or_none test (Some vote) = either (test vote)
  where
    either : (b : Bool) → (b || false) ≡ b
    either true = refl
    either false = refl

ahead : (test : Vote → Bool) (o : Option Vote) (votes : List Vote) (all b : Bool) → all ≡ (list_any test votes || b)
    → (option_map_or test o false || all) ≡ (list_any test (cons_option o votes) || b)
ahead test None votes all b e = e
ahead test (Some vote) votes all b e = three (test vote) (list_any test votes) all b e
  where
    three : (x y z w : Bool) → z ≡ (y || w) → (x || z) ≡ ((x || y) || w)
    three true y z w e = refl
    three false y z w e = e

same_ahead : (test : Vote → Bool) (o : Option Vote) (votes : List Vote) → list_any test (cons_option o votes) ≡ (option_map_or test o false || list_any test votes)
same_ahead test None votes = refl
same_ahead test (Some vote) votes = refl

votes_push : (s : Subject) (packets : List Packet) (packet : Packet)
    → list_any (is_on s) (filter_map vote_in (packets ++ packet ∷ [])) ≡ (list_any (is_on s) (filter_map vote_in packets) || option_map_or (is_on s) (vote_in packet) false)
votes_push s [] packet = or_none (is_on s) (vote_in packet)
votes_push s (first ∷ packets) packet =
    same_ahead (is_on s) (vote_in first) (filter_map vote_in (packets ++ packet ∷ []))
    ∙ ahead (is_on s) (vote_in first) (filter_map vote_in packets) _ (option_map_or (is_on s) (vote_in packet) false) (votes_push s packets packet)

turned : (a b c : Bool) → (b || (a || c)) ≡ ((a || b) || c)
turned true true c = refl
turned true false c = refl
turned false true c = refl
turned false false c = refl

pub packet-more : (packets : List Packet) (i : ℕ) (packet : Packet) (s : Subject) (initial old new : Bool) → i < length packets → packet ≡ get_or packets i packet
    → old ≡ (list_any (is_on s) (filter_map vote_in (take i packets)) || initial)
    → new ≡ (option_map_or (is_on s) (vote_in packet) false || old)
    → new ≡ (list_any (is_on s) (filter_map vote_in (take (i + 1) packets)) || initial)
packet-more packets i packet s initial old new lt is before adds =
    adds ∙ ap (λ b. option_map_or (is_on s) (vote_in packet) false || b) before
    ∙ turned (list_any (is_on s) (filter_map vote_in (take i packets))) (option_map_or (is_on s) (vote_in packet) false) initial
    ∙ ap (λ b. b || initial) (sym (ap (λ ps. list_any (is_on s) (filter_map vote_in ps)) (take_more packets i packet lt)
    ∙ votes_push s (take i packets) (get_or packets i packet) ∙ ap (λ p. list_any (is_on s) (filter_map vote_in (take i packets)) || option_map_or (is_on s) (vote_in p) false) (sym is)))
