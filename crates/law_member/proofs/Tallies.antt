-- What a step has done so far, read from its calls and its messages.
use Rattle.std.proofs.Common.{◌≡◌, ℕ, Bool, true, false, cond, option_to_list, List, [], ◌∷◌, ◌++◌, map, filter_map, reverse, All, Option, Some, None, refl, sym, ap, ◌∙◌, subst, append-nil}
use Rattle.std.proofs.lemmas.List.{reverse-append, map-append}
use Rattle.std.proofs.lemmas.List.Elements.{All-push, filter-append, filter_map-append}
use Rattle.simplex_wire.specs.declared.vote.Vote.{Vote}
use Rattle.simplex_wire.specs.declared.certificate.Certificate.{Certificate}
use Rattle.simplex_wire.specs.declared.artifact.Artifact.{Artifact}
use Rattle.simplex_wire.specs.Fields.{artifact_round}
use Rattle.simplex_messages.specs.declared.call.Call.{Call}
use Rattle.simplex_messages.specs.declared.call.Call.TheVariants as calls
use Rattle.simplex_messages.specs.declared.handed.Handed.{Handed}
use Rattle.simplex_messages.specs.declared.handed.Handed.TheVariants as handed
use Rattle.simplex_messages.specs.declared.batcher.Message.TheVariants as batcher
use Rattle.model_rules.specs.Known.{Fact}
use Rattle.model_rules.specs.Pending.{Sought}
use Rattle.model_steps.specs.Desk.{Doing, resolve_of}
use Rattle.law_member.specs.Sections.{IsOfSection}
use Rattle.law_member.specs.VoterVotes.{is_vote_packet, vote_packets, packet_of, constructed_vote, constructed_votes}
use Rattle.law_member.specs.Learned.{lasting, fact_of_record, appended_fact, facts_of_step, additions, added_at, publications, publications_of}
use Rattle.law_member.specs.Tidings.{of_proposals}
use Rattle.law_member.specs.Syncs.{unsynced}
use Rattle.law_member.specs.Outgoing.{IsAdded, MayGoOut}
use Rattle.law_member.proofs.Quiet.{Same}
use Rattle.law_member.proofs.Syncing.{is_outward, Guarded, guards_push, synced_push}
use Rattle.law_member.proofs.Adding.{added_later}

-- as a step has acted: the votes that are due to go out, and what it learned of a proposal; and whether it has synced
pub record Due : Type 0 where
  pub votes : List Vote
  pub learned : Option Fact
  pub synced : Bool

-- nothing is
abbrev pub nothing : Due
nothing = record { votes = []; learned = None; synced = false }

-- from now on it has synced
abbrev pub once_synced : Due → Due
once_synced due = record due { synced = true }

-- so far these votes went out
pub record Tally (now : ℕ) (before : List Fact) (touched : Option ℕ) (due : Due) (sent : List Vote) (cs : List Call) (hs : List Handed) (added : List Certificate) (known : List Fact) : Type 0 where
  pub sections : All (IsOfSection touched) cs
  pub written : lasting known ≡ facts_of_step now cs ++ lasting before
  pub new : additions known ≡ map (added_at now) added ++ additions before
  pub published : publications known ≡ publications_of now due.votes ++ publications before
  pub learned : of_proposals known ≡ option_to_list due.learned ++ of_proposals before
  pub packets : vote_packets cs ≡ map packet_of sent
  pub constructed : constructed_votes hs ≡ sent
  pub guarded : Guarded [] cs
  pub stored : due.synced ≡ true → unsynced cs ≡ []
  pub shown : All (MayGoOut (additions known)) cs

abbrev pub Tallied : ℕ → List Fact → Option ℕ → Due → List Vote → Doing → Type 0
Tallied now before touched due sent d = Tally now before touched due sent d.calls d.handed d.added d.desk.known

-- ---- one more call, and one more message

fact_last : (now : ℕ) (cs : List Call) (c : Call) → facts_of_step now (cs ++ c ∷ []) ≡ facts_of_step now (c ∷ []) ++ facts_of_step now cs
fact_last now cs c =
    ap reverse (filter_map-append (appended_fact now) cs (c ∷ []))
    ∙ reverse-append (filter_map (appended_fact now) cs) (filter_map (appended_fact now) (c ∷ []))

no_fact : (now : ℕ) (c : Call) → appended_fact now c ≡ None → facts_of_step now (c ∷ []) ≡ []
no_fact now c e = cc

packet_last : (cs : List Call) (c : Call) → vote_packets (cs ++ c ∷ []) ≡ vote_packets cs ++ vote_packets (c ∷ [])
packet_last cs c = filter-append is_vote_packet cs (c ∷ [])

no_packet : (c : Call) → is_vote_packet c ≡ false → vote_packets (c ∷ []) ≡ []
no_packet c e = ap (λ b. cond b (c ∷ []) []) e

message_last : (hs ms : List Handed) → constructed_votes (hs ++ ms) ≡ constructed_votes hs ++ constructed_votes ms
message_last hs ms = filter_map-append constructed_vote hs ms

-- ---- what is done next

pub tally_known : (now : ℕ) (before : List Fact) (touched : Option ℕ) (due : Due) (sent : List Vote) (cs : List Call) (hs : List Handed) (added : List Certificate) (known later : List Fact)
    → Same known later → Tally now before touched due sent cs hs added known → Tally now before touched due sent cs hs added later
tally_known now before touched due sent cs hs added known later same t =
    record {
      sections = t.sections;
      written = same.lasts ∙ t.written;
      new = same.adds ∙ t.new;
      published = same.publishes ∙ t.published;
      learned = same.learns ∙ t.learned;
      packets = t.packets;
      constructed = t.constructed;
      guarded = t.guarded;
      stored = t.stored;
      shown = subst (λ facts. All (MayGoOut facts) cs) (sym same.adds) t.shown;
    }

-- a call that appends nothing and sends no vote; a sync is one. What goes out waits for the sync, and a
-- certificate that goes out was added
abbrev pub IsPlain : ℕ → Option ℕ → Due → List Fact → Call → Type 0
IsPlain now touched due known c = IsOfSection touched c × (appended_fact now c ≡ None) × (is_vote_packet c ≡ false) × (is_outward c ≡ true → due.synced ≡ true) × MayGoOut (additions known) c

pub tally_plain : (now : ℕ) (before : List Fact) (touched : Option ℕ) (due : Due) (sent : List Vote) (cs : List Call) (hs : List Handed) (added : List Certificate) (known : List Fact) (c : Call)
    → IsPlain now touched due known c → Tally now before touched due sent cs hs added known → Tally now before touched due sent (cs ++ c ∷ []) hs added known
tally_plain now before touched due sent cs hs added known c plain t =
    record {
      sections = All-push (IsOfSection touched) cs c t.sections plain.0;
      written = t.written ∙ ap (λ facts. facts ++ lasting before) (sym (fact_last now cs c ∙ ap (λ facts. facts ++ facts_of_step now cs) (no_fact now c plain.1)));
      new = t.new;
      published = t.published;
      learned = t.learned;
      packets = packet_last cs c ∙ ap (λ ps. vote_packets cs ++ ps) (no_packet c plain.2) ∙ append-nil (vote_packets cs) ∙ t.packets;
      constructed = t.constructed;
      guarded = guards_push cs c t.guarded (λ out. t.stored (plain.3 out));
      stored = λ e. synced_push now cs c plain.1 (t.stored e);
      shown = All-push (MayGoOut (additions known)) cs c t.shown plain.4;
    }

-- a record of the touched view is appended, and the fact that it tells is known
pub record Notes (now : ℕ) (known later : List Fact) (artifact : Artifact) : Type 0 where
  pub lasts : lasting later ≡ fact_of_record now artifact ∷ lasting known
  pub adds : additions later ≡ additions known
  pub publishes : publications later ≡ publications known
  pub learns : of_proposals later ≡ of_proposals known

pub tally_note : (now : ℕ) (before : List Fact) (touched : Option ℕ) (due : Due) (sent : List Vote) (cs : List Call) (hs : List Handed) (added : List Certificate) (known later : List Fact) (artifact : Artifact)
    → due.synced ≡ false → touched ≡ Some (artifact_round artifact).view → Notes now known later artifact → Tally now before touched due sent cs hs added known
    → Tally now before touched due sent (cs ++ calls.Append (artifact_round artifact).view artifact ∷ []) hs added later
tally_note now before touched due sent cs hs added known later artifact unsaved here noted t =
    let c = calls.Append (artifact_round artifact).view artifact in
    record {
      sections = All-push (IsOfSection touched) cs c t.sections (here, refl);
      written = noted.lasts ∙ ap (λ facts. fact_of_record now artifact ∷ facts) t.written ∙ ap (λ facts. facts ++ lasting before) (sym (fact_last now cs c));
      new = noted.adds ∙ t.new;
      published = noted.publishes ∙ t.published;
      learned = noted.learns ∙ t.learned;
      packets = packet_last cs c ∙ append-nil (vote_packets cs) ∙ t.packets;
      constructed = t.constructed;
      guarded = guards_push cs c t.guarded (λ out. cc);
      stored = λ e. cc (e, unsaved);
      shown = All-push (MayGoOut (additions later)) cs c (subst (λ facts. All (MayGoOut facts) cs) (sym noted.adds) t.shown) tt;
    }

-- messages with no own vote are handed on
pub tally_hands : (now : ℕ) (before : List Fact) (touched : Option ℕ) (due : Due) (sent : List Vote) (cs : List Call) (hs ms : List Handed) (added : List Certificate) (known : List Fact)
    → constructed_votes ms ≡ [] → Tally now before touched due sent cs hs added known → Tally now before touched due sent cs (hs ++ ms) added known
tally_hands now before touched due sent cs hs ms added known silent t =
    record {
      sections = t.sections;
      written = t.written;
      new = t.new;
      published = t.published;
      learned = t.learned;
      packets = t.packets;
      constructed = message_last hs ms ∙ ap (λ vs. constructed_votes hs ++ vs) silent ∙ append-nil (constructed_votes hs) ∙ t.constructed;
      guarded = t.guarded;
      stored = t.stored;
      shown = t.shown;
    }

pub sought_silent : (sought : List Sought) → constructed_votes (map (λ s. handed.Resolver (resolve_of s)) sought) ≡ []
sought_silent [] = refl
sought_silent (s ∷ rest) = sought_silent rest

-- a vote goes out
pub tally_send : (now : ℕ) (before : List Fact) (touched : Option ℕ) (due : Due) (sent : List Vote) (cs : List Call) (hs : List Handed) (added : List Certificate) (known : List Fact) (v : Vote)
    → due.synced ≡ true → Tally now before touched due sent cs hs added known
    → Tally now before touched due (sent ++ v ∷ []) (cs ++ packet_of v ∷ []) (hs ++ handed.Batcher (batcher.Constructed v) ∷ []) added known
tally_send now before touched due sent cs hs added known v synced t =
    let c = packet_of v in
    record {
      sections = All-push (IsOfSection touched) cs c t.sections tt;
      written = t.written ∙ ap (λ facts. facts ++ lasting before) (sym (fact_last now cs c));
      new = t.new;
      published = t.published;
      learned = t.learned;
      packets = packet_last cs c ∙ ap (λ ps. ps ++ c ∷ []) t.packets ∙ sym (map-append packet_of sent (v ∷ []));
      constructed = message_last hs (handed.Batcher (batcher.Constructed v) ∷ []) ∙ ap (λ vs. vs ++ v ∷ []) t.constructed;
      guarded = guards_push cs c t.guarded (λ out. t.stored synced);
      stored = λ e. synced_push now cs c refl (t.stored e);
      shown = All-push (MayGoOut (additions known)) cs c t.shown tt;
    }

-- what was appended is synced
pub tally_synced : (now : ℕ) (before : List Fact) (touched : Option ℕ) (due : Due) (sent : List Vote) (cs : List Call) (hs : List Handed) (added : List Certificate) (known : List Fact)
    → unsynced cs ≡ [] → Tally now before touched due sent cs hs added known → Tally now before touched (once_synced due) sent cs hs added known
tally_synced now before touched due sent cs hs added known none t =
    record {
      sections = t.sections;
      written = t.written;
      new = t.new;
      published = t.published;
      learned = t.learned;
      packets = t.packets;
      constructed = t.constructed;
      guarded = t.guarded;
      stored = λ e. none;
      shown = t.shown;
    }

-- what was added before is added now
pub tally_added : (now : ℕ) (before : List Fact) (touched : Option ℕ) (due : Due) (sent : List Vote) (cs : List Call) (hs : List Handed) (added : List Certificate) (known : List Fact) (c : Certificate)
    → Tally now before touched due sent cs hs added known → IsAdded (additions before) c → IsAdded (additions known) c
tally_added now before touched due sent cs hs added known c t h =
    subst (λ facts. IsAdded facts c) (sym t.new) (added_later (map (added_at now) added) (additions before) c h)
