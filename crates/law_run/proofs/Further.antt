-- One more event of a node, and what its member lives in it.
use Rattle.model_run.specs.Setting.{Setting}
use Rattle.model_run.specs.Life.{Stopped, Running, sections_in, Noted, Life, is_of, after, life_in}
use Rattle.model_steps.specs.VoterLife.{place_of}
use Rattle.model_steps.specs.Engine.{voter_in, voter_past, sections_of}
use Rattle.simplex_wire.specs.declared.vote.Nullify.{Nullify}
use Rattle.simplex_wire.specs.declared.vote.Vote.{Vote}
use Rattle.simplex_wire.specs.declared.vote.Vote.TheVariants as votes
use Rattle.simplex_wire.specs.declared.artifact.Artifact.{Artifact}
use Rattle.simplex_wire.specs.declared.artifact.Artifact.TheVariants as artifacts
use Rattle.std.proofs.Common.{◌≡◌, ℕ, ◌<◌, ◌==◌, ◌&&◌, Bool, true, false, List, [], ◌∷◌, ◌++◌, map, Contains, refl, sym, ap, ◌∙◌, subst, inl, inr, ◌⊎◌, arith, append_assoc, eqb-true, eq-eqb, if◌then◌else◌}
use Rattle.std.proofs.lemmas.Grind.{common_steps}
use Rattle.std.proofs.lemmas.List.{map-append}
use Rattle.std.proofs.lemmas.List.Elements.{Contains-append_left, Contains-append_right, Contains-append_cases}
use Rattle.simplex_values.specs.declared.plan.Channel.TheVariants as channels
use Rattle.simplex_values.specs.declared.proposal.Subject.{Subject}
use Rattle.simplex_values.specs.declared.proposal.Subject.TheVariants as subjects
use Rattle.simplex_values.specs.declared.round.Round.{Round}
use Rattle.simplex_transcript.specs.declared.node.Node.{Node}
use Rattle.simplex_messages.specs.declared.call.Call.{Call}
use Rattle.simplex_messages.specs.declared.call.Call.TheVariants as calls
use Rattle.model_run.specs.Members.{is_same_node, rules_of}
use Rattle.simplex_journal.specs.Journal.{Section, replayed}
use Rattle.simplex_journal.specs.Contents as journal
use Rattle.simplex_journal.proofs.Contents.{kept-rested}
use Rattle.law_agreement.specs.World as agreement
use Rattle.law_agreement.specs.World.{Sent}
use Rattle.law_agreement.specs.Artifacts as member
use Rattle.law_agreement.specs.Journal as kept
use Rattle.law_agreement.specs.Member as life
use Rattle.law_agreement.specs.Member.{Member, newborn, run, IsLegal}
use Rattle.law_agreement.proofs.Invariant.{Lives, Lives-run, Lives-newborn}
use Rattle.law_agreement.proofs.JournalFacts.{held_kept}
use Rattle.law_agreement.proofs.ListFacts.{not_in_empty, Contains-here, Contains-there, Contains-cons_cases}
use Rattle.law_agreement.proofs.CallFacts.{run-append, IsLegal-append, brought-append}
use Rattle.law_member.specs.Life.{memory_of, section_of, journal_of, certificate_in, taken, vote_in, voted, AreSent, AreVotesSent, IsEarlier, IsStopped}
use Rattle.law_member.specs.Storing.{IsRepeated, IsOwn, AreStoredFirst}
use Rattle.law_member.proofs.Constructing.{AreVotesSent-more}
use Rattle.law_member.proofs.Replaying.{kept_is}
use Rattle.law_run.specs.Histories.{calls_of, floor_in, floors_of, IsEpochNullify, IsAt, IsHeld, AreStored, AreConstructed, IsLivedBy}

pub same_self : (a : Node) → is_same_node a a ≡ true
same_self a = grind (arith, common_steps, eq-eqb a.member a.member refl, eq-eqb a.half a.half refl)

and_parts : (a b : Bool) → (a && b) ≡ true → (a ≡ true) × (b ≡ true)
and_parts true b e = (refl, e)
and_parts false b e = cc

pub same_node : (a b : Node) → is_same_node a b ≡ true → a ≡ b
same_node a b e =
    let p = and_parts (a.member == b.member) (a.half == b.half) e in
    ap (λ n. record { member = n; half = a.half }) (eqb-true a.member b.member p.0) ∙ ap (λ n. record { member = b.member; half = n }) (eqb-true a.half b.half p.1)

pub own_any : (setting : Setting) (member a b : ℕ) (v : Vote) → IsOwn (rules_of setting member a) v → IsOwn (rules_of setting member b) v
unfolding rules_of
own_any setting member a b (votes.Notarize v) o = o
own_any setting member a b (votes.Nullify v) o = o
own_any setting member a b (votes.Finalize v) o = o

-- where votes are own ones by one account, they are by a weaker one
pub first_own : (Earlier : Nullify → Type 0) (P Q : Vote → Type 0) (cs : List Call) → ((v : Vote) → P v → Q v) → AreStoredFirst Earlier P cs → AreStoredFirst Earlier Q cs
first_own Earlier P Q cs f first before behind to bytes e = (let x = first before behind to bytes e in (x.0, x.1, x.2, f x.0 x.3))

pub stopped_any : (setting : Setting) (member a b : ℕ) (js : List Section) (m : Member) → IsStopped (rules_of setting member a) js m → IsStopped (rules_of setting member b) js m
unfolding rules_of
stopped_any setting member a b js m s = record { up = s.up; blank = s.blank; journal = s.journal; stored = s.stored; rising = s.rising; own = s.own }

-- ---- one more event

pub life_then : (setting : Setting) (noted : Noted) (before : List Noted) (node : Node) → is_of node noted.event ≡ true
    → life_in setting (noted ∷ before) node ≡ after setting noted.event noted.did (life_in setting before node)
unfolding life_in
life_then setting noted before node e = ap (λ b. if b then after setting noted.event noted.did (life_in setting before node) else life_in setting before node) e

pub life_still : (setting : Setting) (noted : Noted) (before : List Noted) (node : Node) → is_of node noted.event ≡ false
    → life_in setting (noted ∷ before) node ≡ life_in setting before node
unfolding life_in
life_still setting noted before node e = ap (λ b. if b then after setting noted.event noted.did (life_in setting before node) else life_in setting before node) e

calls_then : (noted : Noted) (before : List Noted) (node : Node) → is_of node noted.event ≡ true → calls_of node (noted ∷ before) ≡ calls_of node before ++ noted.entry.calls
unfolding calls_of
calls_then noted before node e = ap (λ b. if b then calls_of node before ++ noted.entry.calls else calls_of node before) e

calls_still : (noted : Noted) (before : List Noted) (node : Node) → is_of node noted.event ≡ false → calls_of node (noted ∷ before) ≡ calls_of node before
unfolding calls_of
calls_still noted before node e = ap (λ b. if b then calls_of node before ++ noted.entry.calls else calls_of node before) e

taken-append : (xs ys : List Call) → taken (xs ++ ys) ≡ taken xs ++ taken ys
unfolding taken
taken-append [] ys = refl
taken-append (calls.Append n a ∷ xs) ys = ap (λ zs. certificate_in a ++ zs) (taken-append xs ys) ∙ sym (append_assoc (certificate_in a) (taken xs) (taken ys))
taken-append (calls.Sync n ∷ xs) ys = taken-append xs ys
taken-append (calls.Prune n ∷ xs) ys = taken-append xs ys
taken-append (calls.Send channel to bytes ∷ xs) ys = taken-append xs ys
taken-append (calls.Report activity ∷ xs) ys = taken-append xs ys
taken-append (calls.Relay payload plan ∷ xs) ys = taken-append xs ys
taken-append (calls.Block who why ∷ xs) ys = taken-append xs ys

voted-append : (xs ys : List Call) → voted (xs ++ ys) ≡ voted xs ++ voted ys
unfolding voted
voted-append [] ys = refl
voted-append (calls.Append n a ∷ xs) ys = ap (λ zs. vote_in a ++ zs) (voted-append xs ys) ∙ sym (append_assoc (vote_in a) (voted xs) (voted ys))
voted-append (calls.Sync n ∷ xs) ys = voted-append xs ys
voted-append (calls.Prune n ∷ xs) ys = voted-append xs ys
voted-append (calls.Send channel to bytes ∷ xs) ys = voted-append xs ys
voted-append (calls.Report activity ∷ xs) ys = voted-append xs ys
voted-append (calls.Relay payload plan ∷ xs) ys = voted-append xs ys
voted-append (calls.Block who why ∷ xs) ys = voted-append xs ys

AreSent-append : (xs ys : List Call) (s t : List Subject) → AreSent xs s → AreSent ys t → AreSent (xs ++ ys) (s ++ t)
unfolding AreSent
AreSent-append [] ys s t h k = subst (λ zs. AreSent ys (zs ++ t)) (sym h) k
AreSent-append (calls.Send channels.Vote to bytes ∷ xs) ys s t h k =
    (h.0, h.1 ++ t, h.2, ap (λ zs. zs ++ t) h.3, AreSent-append xs ys h.1 t h.4 k)
AreSent-append (calls.Send channels.Certificate to bytes ∷ xs) ys s t h k = AreSent-append xs ys s t h k
AreSent-append (calls.Send channels.Resolver to bytes ∷ xs) ys s t h k = AreSent-append xs ys s t h k
AreSent-append (calls.Append n a ∷ xs) ys s t h k = AreSent-append xs ys s t h k
AreSent-append (calls.Sync n ∷ xs) ys s t h k = AreSent-append xs ys s t h k
AreSent-append (calls.Prune n ∷ xs) ys s t h k = AreSent-append xs ys s t h k
AreSent-append (calls.Report activity ∷ xs) ys s t h k = AreSent-append xs ys s t h k
AreSent-append (calls.Relay payload plan ∷ xs) ys s t h k = AreSent-append xs ys s t h k
AreSent-append (calls.Block who why ∷ xs) ys s t h k = AreSent-append xs ys s t h k

abbrev pub subjects_of : List Sent → List Subject
subjects_of sent = map (λ (s : Sent). s.subject) sent

-- what the member lives in the event
pub record Further (setting : Setting) (noted : Noted) (node : Node) (later : Life) (m : Member) : Type 0 where
  pub calls : List life.Call
  pub sent : List Sent
  pub legal : IsLegal setting.setup.term m calls
  pub brought : (c : agreement.Certificate) → Contains (life.brought calls) c → Contains (taken noted.entry.calls) c ⊎ Contains (floor_in node noted.event) c
  pub sends : (run m calls).sent ≡ m.sent ++ sent
  pub votes : AreSent noted.entry.calls (subjects_of sent)
  pub at : IsAt setting node later (run m calls)
  pub first : AreStoredFirst (IsEarlier m) (IsOwn (rules_of setting node.member 0)) noted.entry.calls
  pub constructed : AreVotesSent (run m calls).sent noted.entry.handed
  pub own : (s : Subject) → Contains (subjects_of sent) s → Contains (voted noted.entry.calls) s ⊎ IsEpochNullify setting.setup s

floors_then : (noted : Noted) (before : List Noted) (node : Node) → floors_of node (noted ∷ before) ≡ floors_of node before ++ floor_in node noted.event
unfolding floors_of
floors_then noted before node = refl

-- ---- what was made before stands in the journal

kept_in : (js : List Section) (a : member.Artifact) → kept.waiting (journal_of js) ≡ [] → Contains (kept.held (journal_of js)) a → Contains (map memory_of (replayed js)) a
kept_in js a rest c = subst (λ xs. Contains xs a) (held_kept (journal_of js) rest ∙ kept_is js rest) c

from_map : (xs : List Artifact) (x : member.Artifact) → Contains (map memory_of xs) x → (a : Artifact) × Contains xs a × (memory_of a ≡ x)
from_map [] x c = absurd (not_in_empty x c)
from_map (y ∷ ys) x c =
    elim (Contains-cons_cases (memory_of y) (map memory_of ys) x c) [
      | inl e ↦ (y, Contains-here y ys, e)
      | inr r ↦ (let p = from_map ys x r in (p.0, Contains-there y ys p.0 p.1, p.2))
    ]

-- the record of an own nullify
own_nullify : (a : Artifact) (round : Round) → memory_of a ≡ member.Own (subjects.Nullify round) → (w : Nullify) × (a ≡ artifacts.Nullify w) × (w.round ≡ round)
own_nullify (artifacts.Nullify w) round e = (w, refl, cc)
own_nullify (artifacts.Notarize v) round e = cc
own_nullify (artifacts.Finalize v) round e = cc
own_nullify (artifacts.Notarization c) round e = cc
own_nullify (artifacts.Nullification c) round e = cc
own_nullify (artifacts.Finalization c) round e = cc
own_nullify (artifacts.Certification r good) round e = cc

none_left : {X : Type 0} (xs ys : List X) → xs ++ ys ≡ [] → (xs ≡ []) × (ys ≡ [])
none_left [] ys e = (refl, e)
none_left (x ∷ xs) ys e = cc

map_none : {A B : Type 0} (f : A → B) (xs : List A) → map f xs ≡ [] → xs ≡ []
map_none f [] e = refl
map_none f (x ∷ xs) e = cc

pub at_rest : (js : List Section) → kept.waiting (journal_of js) ≡ [] → journal.waiting js ≡ []
unfolding journal_of journal.waiting
at_rest [] e = refl
at_rest (s ∷ rest) e =
    let p = none_left (map memory_of s.pending) (kept.waiting (map section_of rest)) e in
    ap (λ xs. xs ++ journal.waiting rest) (map_none memory_of s.pending p.0) ∙ at_rest rest p.1

held_vote : (length : ℕ) (js : List Section) (m : Member) (v : Nullify) → Lives length m → m.up ≡ true → m.journal ≡ journal_of js → kept.waiting m.journal ≡ [] → IsEarlier m v → IsHeld js v
held_vote length js m v l up journal rest e =
    let own = member.Own (subjects.Nullify v.round) in
    let still = ap kept.waiting (sym journal) ∙ rest in
    let stands = subst (λ j. Contains (kept.held j) own) journal ((l.running up).knowing.stands own e.0 e.1) in
    let found = from_map (replayed js) own (kept_in js own still stands) in
    let w = own_nullify found.0 v.round found.2 in
    (w.0, w.2, subst (λ xs. Contains xs (artifacts.Nullify w.0)) (sym (kept-rested js (at_rest js still))) (subst (Contains (replayed js)) w.1 found.1))

repeated_weaker : (P Q : Nullify → Type 0) → ((v : Nullify) → P v → Q v) → (v : Vote) → IsRepeated P v → IsRepeated Q v
repeated_weaker P Q f (votes.Nullify v) h = f v h
repeated_weaker P Q f (votes.Notarize v) h = absurd h
repeated_weaker P Q f (votes.Finalize v) h = absurd h

-- a member that is down knows nothing that it made
first_held : (setting : Setting) (node : Node) (l : Life) (m : Member) (length : ℕ) (cs : List Call) → Lives length m → IsAt setting node l m → AreStoredFirst (IsEarlier m) (IsOwn (rules_of setting node.member 0)) cs
    → AreStoredFirst (IsHeld (sections_in l)) (IsOwn (rules_of setting node.member 0)) cs
unfolding IsAt sections_of
first_held setting node (Stopped sections) m length cs lives at first before behind to bytes e =
    let x = first before behind to bytes e in
    (x.0, x.1, elim x.2 [ inl s ↦ inl s | inr k ↦ inr (repeated_weaker (IsEarlier m) (IsHeld sections) nothing x.0 k) ], x.3)
  where
    nothing : (v : Nullify) → IsEarlier m v → IsHeld sections v
    nothing v k = absurd (not_in_empty _ (subst (λ xs. Contains xs (member.Own (subjects.Nullify v.round))) at.blank k.0))
first_held setting node (Running made past) m length cs lives at first before behind to bytes e =
    let js = (place_of (voter_in made past) (voter_past past)).sections in
    let x = first before behind to bytes e in (
      x.0,
      x.1,
      elim x.2 [
        | inl s ↦ inl s
        | inr k ↦ inr (repeated_weaker (IsEarlier m) (IsHeld js) (λ v. held_vote length js m v lives at.1.up at.1.journal at.1.stored) x.0 k)
      ],
      x.3,
    )

stored_then : (setting : Setting) (noted : Noted) (before : List Noted) (node : Node) → AreStoredFirst (IsHeld (sections_in (life_in setting before node))) (IsOwn (rules_of setting node.member 0)) noted.entry.calls
    → AreStored setting node before → AreStored setting node (noted ∷ before)
unfolding AreStored
stored_then setting noted before node f s = (λ e. f, s)

stored_still : (setting : Setting) (noted : Noted) (before : List Noted) (node : Node) → is_of node noted.event ≡ false → AreStored setting node before → AreStored setting node (noted ∷ before)
unfolding AreStored
stored_still setting noted before node e s = (λ t. absurd (cc (e, t)), s)

constructed_more : (node : Node) (before : List Noted) (sent more : List Sent) → AreConstructed node before sent → AreConstructed node before (sent ++ more)
unfolding AreConstructed
constructed_more node [] sent more h = tt
constructed_more node (noted ∷ before) sent more h = (λ e. AreVotesSent-more sent more noted.entry.handed (h.0 e), constructed_more node before sent more h.1)

constructed_then : (node : Node) (noted : Noted) (before : List Noted) (sent : List Sent) → AreVotesSent sent noted.entry.handed → AreConstructed node before sent
    → AreConstructed node (noted ∷ before) sent
unfolding AreConstructed
constructed_then node noted before sent f h = (λ e. f, h)

constructed_still : (node : Node) (noted : Noted) (before : List Noted) (sent : List Sent) → is_of node noted.event ≡ false → AreConstructed node before sent
    → AreConstructed node (noted ∷ before) sent
unfolding AreConstructed
constructed_still node noted before sent e h = (λ t. absurd (cc (e, t)), h)

pub go_further : (setting : Setting) (noted : Noted) (before : List Noted) (node : Node) → 0 < setting.setup.term → is_of node noted.event ≡ true → (b : IsLivedBy setting before node)
    → Further setting noted node (after setting noted.event noted.did (life_in setting before node)) (run newborn b.calls) → IsLivedBy setting (noted ∷ before) node
go_further setting noted before node pos e b f =
    let joined = run-append newborn b.calls f.calls in
    let m = run newborn b.calls in
    let calls_is = calls_then noted before node e in
    let taken_is : taken (calls_of node (noted ∷ before)) ≡ taken (calls_of node before) ++ taken noted.entry.calls =
    ap taken calls_is ∙ taken-append (calls_of node before) noted.entry.calls in
    let floors_is = floors_then noted before node in
    let voted_is : voted (calls_of node (noted ∷ before)) ≡ voted (calls_of node before) ++ voted noted.entry.calls =
    ap voted calls_is ∙ voted-append (calls_of node before) noted.entry.calls in
    let sent_is : subjects_of (run newborn (b.calls ++ f.calls)).sent ≡ subjects_of m.sent ++ subjects_of f.sent =
    ap (λ (n : Member). subjects_of n.sent) joined ∙ ap subjects_of f.sends ∙ map-append _ m.sent f.sent in
    record {
      own = λ s k. elim (Contains-append_cases (subjects_of m.sent) (subjects_of f.sent) s (subst (λ xs. Contains xs s) sent_is k)) [
        | inl old ↦ elim (b.own s old) [
          | inl t ↦ inl (subst (λ xs. Contains xs s) (sym voted_is) (Contains-append_left (voted (calls_of node before)) (voted noted.entry.calls) s t))
          | inr t ↦ inr t
        ]
        | inr new ↦ elim (f.own s new) [
          | inl t ↦ inl (subst (λ xs. Contains xs s) (sym voted_is) (Contains-append_right (voted (calls_of node before)) (voted noted.entry.calls) s t))
          | inr t ↦ inr t
        ]
      ];
      calls = b.calls ++ f.calls;
      legal = IsLegal-append setting.setup.term newborn b.calls f.calls b.legal f.legal;
      brought = λ c k. elim (Contains-append_cases (life.brought b.calls) (life.brought f.calls) c (subst (λ xs. Contains xs c) (brought-append b.calls f.calls) k)) [
        | inl old ↦ elim (b.brought c old) [
          | inl t ↦ inl (subst (λ xs. Contains xs c) (sym taken_is) (Contains-append_left (taken (calls_of node before)) (taken noted.entry.calls) c t))
          | inr t ↦ inr (subst (λ xs. Contains xs c) (sym floors_is) (Contains-append_left (floors_of node before) (floor_in node noted.event) c t))
        ]
        | inr new ↦ elim (f.brought c new) [
          | inl t ↦ inl (subst (λ xs. Contains xs c) (sym taken_is) (Contains-append_right (taken (calls_of node before)) (taken noted.entry.calls) c t))
          | inr t ↦ inr (subst (λ xs. Contains xs c) (sym floors_is) (Contains-append_right (floors_of node before) (floor_in node noted.event) c t))
        ]
      ];
      votes = subst (λ cs. AreSent cs (subjects_of (run newborn (b.calls ++ f.calls)).sent)) (sym calls_is)
          (subst (AreSent (calls_of node before ++ noted.entry.calls)) (sym (ap (λ (n : Member). subjects_of n.sent) joined ∙ ap subjects_of f.sends ∙ map-append _ m.sent f.sent))
          (AreSent-append (calls_of node before) noted.entry.calls (subjects_of m.sent) (subjects_of f.sent) b.votes f.votes));
      at = subst (λ x. IsAt setting node x (run newborn (b.calls ++ f.calls))) (sym (life_then setting noted before node e))
          (subst (IsAt setting node (after setting noted.event noted.did (life_in setting before node))) (sym joined) f.at);
      stored = stored_then setting noted before node
          (first_held setting node (life_in setting before node) m setting.setup.term noted.entry.calls (Lives-run setting.setup.term pos newborn b.calls b.legal (Lives-newborn setting.setup.term)) b.at f.first) b.stored;
      constructed = constructed_then node noted before (run newborn (b.calls ++ f.calls)).sent
          (subst (λ (n : Member). AreVotesSent n.sent noted.entry.handed) (sym joined) f.constructed)
          (subst (AreConstructed node before) (sym (ap (λ (n : Member). n.sent) joined ∙ f.sends)) (constructed_more node before m.sent f.sent b.constructed));
    }

pub stay : (setting : Setting) (noted : Noted) (before : List Noted) (node : Node) → is_of node noted.event ≡ false → (b : IsLivedBy setting before node) → IsLivedBy setting (noted ∷ before) node
stay setting noted before node e b =
    record {
      calls = b.calls;
      legal = b.legal;
      brought = λ c k. elim (b.brought c k) [
        | inl t ↦ inl (subst (λ xs. Contains (taken xs) c) (sym (calls_still noted before node e)) t)
        | inr t ↦ inr (subst (λ xs. Contains xs c) (sym (floors_then noted before node)) (Contains-append_left (floors_of node before) (floor_in node noted.event) c t))
      ];
      votes = subst (λ cs. AreSent cs (subjects_of (run newborn b.calls).sent)) (sym (calls_still noted before node e)) b.votes;
      at = subst (λ x. IsAt setting node x (run newborn b.calls)) (sym (life_still setting noted before node e)) b.at;
      stored = stored_still setting noted before node e b.stored;
      constructed = constructed_still node noted before (run newborn b.calls).sent e b.constructed;
      own = subst (λ (cs : List Call). (s : Subject) → Contains (subjects_of (run newborn b.calls).sent) s → Contains (voted cs) s ⊎ IsEpochNullify setting.setup s) (sym (calls_still noted before node e)) b.own;
    }
