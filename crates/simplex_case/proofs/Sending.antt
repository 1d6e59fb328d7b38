-- The votes that honest members sent, of one packet and of one entry more.
use Rattle.std.proofs.Common.{◌≡◌, ℕ, ◌+◌, ◌<◌, ◌≤◌, List, [], ◌∷◌, ◌++◌, Bool, true, false, arith, refl, sym, ap, ◌∙◌, length, take, get_or, if◌then◌else◌}
use Rattle.std.specs.Prelude.{OnOk, Result, Ok, Err, Option, Some, None, find, is_none, ◌==◌, ◌||◌, filter_map}
use Rattle.std.specs.List.{list_any}
use Rattle.std.specs.Option.{option_map}
use Rattle.std.proofs.lemmas.Grind.{common_steps}
use Rattle.std.proofs.lemmas.List.{take_all, take_more}
use Rattle.std.proofs.lemmas.List.Elements.{All-nil, All-cons, filter_map-append}
use Rattle.std.proofs.lemmas.List.Folds.{list_any-append}
use Rattle.simplex_values.specs.declared.proposal.Subject.{Subject}
use Rattle.simplex_transcript.specs.declared.entry.Packet.{Packet}
use Rattle.simplex_transcript.specs.declared.setup.Setup.{Setup}
use Rattle.simplex_types.specs.declared.keyed.Keyed.{Keyed}
use Rattle.model_run.specs.Kinds.{is_honest, is_same_node, node_of}
use Rattle.model_run.specs.Life.{Noted}
use Rattle.model_run.specs.SentVotes.{vote_sent, has_sent}
use Rattle.simplex_records.specs.declared.sent_votes.SentVotes.{SentVotes}
use Rattle.model_run.specs.Forged.{first_forged, is_forged, signed_by_faulty}
use Rattle.simplex_records.specs.declared.forgery.Forgery.{Forgery}
use Rattle.simplex_records.specs.Events.{AreFrom}
use Rattle.simplex_records.specs.Forgeries.{first_forgery, first_of, forgery_of, is_unsent}
use Rattle.simplex_records.specs.Votes.{has_vote, is_on, vote_in, IndexStands, VotesStand}
use Rattle.simplex_records.proofs.Forging.{forgery-found, nothing-forged}
use Rattle.model_audit.specs.declared.record.AuditEntry.{AuditEntry}
use Rattle.model_audit.specs.Rebuilt.{rebuilt_entry}
use Rattle.simplex_records.proofs.Voting.{honest-below, others-votes, own-votes, sent-more}
use Rattle.simplex_case.specs.Taking.{VotesAlong}

pub along-first : (votes : SentVotes) (setup : Setup) (before : List Noted) → IndexStands votes setup before → VotesAlong votes setup before []
along-first votes setup before stand = record { base = stand.base; members = stand.members; count = stand.count; sent = stand.sent }

pub along-last : (votes : SentVotes) (setup : Setup) (before : List Noted) (noted : Noted) (packets : List Packet) → noted.entry.packets ≡ packets
    → VotesAlong votes setup before packets → IndexStands votes setup (noted ∷ before)
along-last votes setup before noted packets same along =
    record {
      base = along.base;
      members = along.members;
      count = along.count;
      sent = λ member subject honest. along.sent member subject honest
          ∙ ap (λ ps. list_any (is_on subject) (filter_map (vote_sent member) ps) || has_sent before member subject) (sym same)
          ∙ sym (sent-more before noted member subject);
    }

-- ---- one packet more

alone : (packet : Packet) → AreFrom packet.from (packet ∷ [])
alone packet = All-cons (λ (p : Packet). p.from ≡ packet.from) packet [] refl (All-nil (λ (p : Packet). p.from ≡ packet.from))

groups : (a b c : Bool) → ((a || b) || c) ≡ (b || (a || c))
groups true true c = refl
groups true false c = refl
groups false true c = refl
groups false false c = refl

more : (member : ℕ) (subject : Subject) (earlier : List Packet) (packet : Packet) (rest : Bool)
    → (list_any (is_on subject) (filter_map (vote_sent member) (earlier ++ packet ∷ [])) || rest)
    ≡ (list_any (is_on subject) (filter_map (vote_sent member) (packet ∷ [])) || (list_any (is_on subject) (filter_map (vote_sent member) earlier) || rest))
more member subject earlier packet rest =
    ap (λ vs. list_any (is_on subject) vs || rest) (filter_map-append (vote_sent member) earlier (packet ∷ []))
    ∙ ap (λ b. b || rest) (list_any-append (is_on subject) (filter_map (vote_sent member) earlier) (filter_map (vote_sent member) (packet ∷ [])))
    ∙ groups (list_any (is_on subject) (filter_map (vote_sent member) earlier)) (list_any (is_on subject) (filter_map (vote_sent member) (packet ∷ []))) rest

-- of no honest member's first half
pub along-other : (votes : SentVotes) (setup : Setup) (before : List Noted) (earlier : List Packet) (packet : Packet)
    → ((member : ℕ) → is_honest setup member ≡ true → is_same_node packet.from (node_of member) ≡ false)
    → VotesAlong votes setup before earlier → VotesAlong votes setup before (earlier ++ packet ∷ [])
along-other votes setup before earlier packet other along =
    record {
      base = along.base;
      members = along.members;
      count = along.count;
      sent = λ member subject honest. along.sent member subject honest
          ∙ sym (more member subject earlier packet (has_sent before member subject)
          ∙ ap (λ vs. list_any (is_on subject) vs || (list_any (is_on subject) (filter_map (vote_sent member) earlier) || has_sent before member subject))
          (others-votes member packet.from (packet ∷ []) (alone packet) (other member honest)));
    }

-- of one
pub along-own : (old new : SentVotes) (setup : Setup) (before : List Noted) (earlier : List Packet) (packet : Packet)
    → packet.from.half ≡ 0 → is_honest setup packet.from.member ≡ true
    → new.scheme ≡ old.scheme → length new.members.items ≡ length old.members.items
    → (packet.from.member < length old.members.items → (at : ℕ) (s : Subject) → has_vote new.members.items at s
    ≡ (if packet.from.member == at then list_any (is_on s) (filter_map vote_in (packet ∷ [])) || has_vote old.members.items at s else has_vote old.members.items at s))
    → VotesAlong old setup before earlier → VotesAlong new setup before (earlier ++ packet ∷ [])
along-own old new setup before earlier packet first honest scheme count votes along =
    record {
      base = ap (λ (s : Keyed). s.key_base) scheme ∙ along.base;
      members = ap (λ (s : Keyed). s.participants) scheme ∙ along.members;
      count = count ∙ along.count;
      sent = λ member subject good.
          votes (let below = honest-below setup packet.from.member honest in omega (arith, below, along.count)) member subject
          ∙ by member subject good (packet.from.member == member) refl
          ∙ sym (more member subject earlier packet (has_sent before member subject));
    }
  where
    mine : (member : ℕ) (b : Bool) → (packet.from.member == member) ≡ b → is_same_node packet.from (node_of member) ≡ b
    mine member b e = grind (arith, common_steps)

    by : (member : ℕ) (subject : Subject) → is_honest setup member ≡ true → (b : Bool) → (packet.from.member == member) ≡ b
        → (if b then list_any (is_on subject) (filter_map vote_in (packet ∷ [])) || has_vote old.members.items member subject else has_vote old.members.items member subject)
        ≡ (list_any (is_on subject) (filter_map (vote_sent member) (packet ∷ [])) || (list_any (is_on subject) (filter_map (vote_sent member) earlier) || has_sent before member subject))
    by member subject good true e =
        ap (λ vs. list_any (is_on subject) vs || has_vote old.members.items member subject) (sym (own-votes member packet.from (packet ∷ []) (alone packet) (mine member true e)))
        ∙ ap (λ b. list_any (is_on subject) (filter_map (vote_sent member) (packet ∷ [])) || b) (along.sent member subject good)
    by member subject good false e =
        along.sent member subject good
        ∙ ap (λ vs. list_any (is_on subject) vs || (list_any (is_on subject) (filter_map (vote_sent member) earlier) || has_sent before member subject))
        (sym (others-votes member packet.from (packet ∷ []) (alone packet) (mine member false e)))

-- ---- packets one by one

pub take-next : (packets : List Packet) (i : ℕ) (packet : Packet) → i < length packets → packet ≡ get_or packets i packet → take i packets ++ packet ∷ [] ≡ take (i + 1) packets
take-next packets i packet lt is = ap (λ p. take i packets ++ p ∷ []) is ∙ sym (take_more packets i packet lt)

-- what holds in the good case, by what holds there
pub on-ok : {A E : Type 0} {P Q : Type 0} (r : Result A E) → (P → Q) → OnOk r P → OnOk r Q
on-ok (Ok x) f p = f p
on-ok (Err e) f p = tt

pub on-ok-two : {A E : Type 0} {P Q R : Type 0} (r : Result A E) → (P → Q → R) → OnOk r P → OnOk r Q → OnOk r R
on-ok-two (Ok x) f p q = f p q
on-ok-two (Err e) f p q = tt

pub take-done : (packets : List Packet) (i : ℕ) → length packets ≤ i → packets ≡ take i packets
take-done packets i done = sym (take_all i packets done)

-- ---- whether an entry is genuine

none_mapped : {A B : Type 0} (f : A → B) (o : Option A) → is_none (option_map f o) ≡ is_none o
none_mapped f None = refl
none_mapped f (Some x) = refl

pub genuine-none : (setup : Setup) (before : List Noted) (e : AuditEntry) → VotesStand None setup before → true ≡ is_none (first_forged setup before (rebuilt_entry e))
unfolding first_forged rebuilt_entry first_forgery
genuine-none setup before e stand =
    ap (λ (o : Option Forgery). is_none o) (nothing-forged setup before e.packets stand)
    ∙ none_mapped forgery_of (find (is_forged setup before) (signed_by_faulty setup e.packets))

pub genuine-some : (votes : SentVotes) (setup : Setup) (before : List Noted) (e : AuditEntry) (packets : List Packet) (found : Option Forgery) (b : Bool)
    → VotesStand (Some votes) setup before → packets ≡ e.packets → found ≡ first_of (is_unsent votes setup) (signed_by_faulty setup packets) → is_none found ≡ b
    → b ≡ is_none (first_forged setup before (rebuilt_entry e))
unfolding first_forged rebuilt_entry first_forgery
genuine-some votes setup before e packets found b stand same is answer =
    sym answer ∙ ap (λ (o : Option Forgery). is_none o) (is ∙ ap (λ ps. first_of (is_unsent votes setup) (signed_by_faulty setup ps)) same ∙ forgery-found votes setup before e.packets stand)
    ∙ none_mapped forgery_of (find (is_forged setup before) (signed_by_faulty setup e.packets))
