-- The invariant of a member's lives over a journal in sections.
use Rattle.std.proofs.Common.{◌≡◌, ℕ, ◌<◌, ◌≤◌, Bool, true, false, nat_lt, nat_le, if◌then◌else◌, List, [], ◌∷◌, ◌++◌, filter, All, AllPairs, Contains, refl, sym, ap, subst, inl, inr, arith, append-nil, append_assoc, leb-true, ltb-true, ◌∙◌, ◌⊎◌}
use Rattle.std.proofs.lemmas.List.Elements.{All-append, All-push, All-weaker, All-nil, All-head, All-tail, All-contains, filter_passes, Contains-append_left, Contains-append_right, Contains-append_cases, Contains-push, Contains-push_cases}
use Rattle.std.proofs.lemmas.List.Quantifiers.{all_pairs_push}
use Rattle.simplex_values.specs.declared.proposal.Subject.{Subject}
use Rattle.simplex_values.specs.declared.proposal.Subject.TheVariants.{Nullify, Finalize}
use Rattle.simplex_values.specs.declared.round.Round.{Round}
use Rattle.law_agreement.specs.World.{World, Sent, MayFollow, MayStand, IsBacked, IsHonest, view_of}
use Rattle.law_agreement.specs.Artifacts.{Artifact, Own, Proved, Judged, artifact_view, finalized_view, greatest, last_finalized, certificates, is_taken, has_notarization, has_verdict}
use Rattle.law_agreement.specs.Votes.{MayVote}
use Rattle.law_agreement.proofs.ListFacts.{not_in_empty, Contains-cons_cases, Contains-from_filter, AllPairs-front, AllPairs-front_alone, All-front, All-front_alone}
use Rattle.law_agreement.proofs.Knowing.{Within, Keeps, Keeps-within, Knowing, Knowing-same, Knowing-push, pruned, Knowing-pruned, Keeps-pruned, Knowing-start}
use Rattle.law_agreement.proofs.VoteFacts.{may_follow, vote_keeps, may_stand}
use Rattle.law_agreement.specs.Journal.{Section, append, append_all, sync, left, prune, kept, held, waiting}
use Rattle.law_agreement.specs.Member.{Member, Call, Start, StartAt, Take, Judge, Vote, Repeat, Sync, Send, Prune, Crash, newborn, appended, queued, published, started, happens, May, run, IsLegal, brought}
use Rattle.law_agreement.proofs.Replays.{Noted, Noted-from_test, Fit, OneVerdict, OneVerdict-within, test_from_verdict, taken_parts, Ready-filter, Knowing-replay, Rising, ReadyAll, append_rising, append_ready, sync_rising, sync_ready, left_rising, left_ready, prune_rising, prune_ready, kept_ready}
use Rattle.law_agreement.proofs.Goods.{good_sent}
use Rattle.law_agreement.proofs.JournalFacts.{Adds, both_within, append_kept, append_held, kept_held, held_kept, sync_held, sync_kept, left_kept, left_held, left_waiting, Placed, append_placed, append_all_placed, sync_placed, left_placed, prune_placed, prune_within, prune_held, prune_has, prune_waiting, append_all_from, append_all_to, append_all_kept}

abbrev pub InOrder : ℕ → List Sent → Type 0
InOrder length sent = AllPairs (λ s t. MayFollow length s.subject t.subject t.known) sent

abbrev pub Alone : ℕ → List Sent → Type 0
Alone length sent = All (λ s. MayStand length s.subject s.known) sent

pub record Running (m : Member) : Type 0 where
  pub knowing : Knowing (held m.journal) m.known
  pub made : All (λ s. Keeps (held m.journal) s.subject) m.outbox

pub record Lives (length : ℕ) (m : Member) : Type 0 where
  pub order : InOrder length (m.sent ++ m.outbox)
  pub alone : Alone length (m.sent ++ m.outbox)
  pub kept : All (λ s. Keeps (kept m.journal) s.subject) m.sent
  pub placed : Placed m.journal
  pub rising : Rising 0 m.journal
  pub ready : ReadyAll m.journal
  pub verdicts : OneVerdict (held m.journal)
  pub resting : m.up ≡ false → waiting m.journal ≡ []
  pub running : m.up ≡ true → Running m

-- each vote that one journal keeps, a greater one does
pub keep_more : (xs ys : List Artifact) → Within xs ys → (sent : List Sent) → All (λ s. Keeps xs s.subject) sent → All (λ s. Keeps ys s.subject) sent
keep_more xs ys f sent h = All-weaker (λ (s : Sent). Keeps xs s.subject) (λ (s : Sent). Keeps ys s.subject) (λ (s : Sent) k. Keeps-within xs ys f s.subject k) sent h

all_kept : (m : Member) → All (λ s. Keeps (kept m.journal) s.subject) m.sent → Running m → All (λ s. Keeps (held m.journal) s.subject) (m.sent ++ m.outbox)
all_kept m k r = All-append (λ (s : Sent). Keeps (held m.journal) s.subject) m.sent m.outbox (keep_more (kept m.journal) (held m.journal) (kept_held m.journal) m.sent k) r.made

-- what an append makes of all that is held
adds : (m : Member) (a : Artifact) → Adds (held m.journal) (held (append a m.journal)) a
adds m a = append_held (artifact_view a) a m.journal

pushed_within : (m : Member) (a : Artifact) → Within (held m.journal ++ a ∷ []) (held (append a m.journal))
pushed_within m a b c = elim (Contains-push_cases (held m.journal) a b c) [ inl o ↦ (adds m a).old b o | inr e ↦ subst (Contains (held (append a m.journal))) e (adds m a).new ]

within_pushed : (m : Member) (a : Artifact) → Within (held (append a m.journal)) (held m.journal ++ a ∷ [])
within_pushed m a b c = elim ((adds m a).only b c) [ inl o ↦ Contains-append_left (held m.journal) (a ∷ []) b o | inr e ↦ subst (Contains (held m.journal ++ a ∷ [])) e (Contains-push (held m.journal) a) ]

Running-appended : (m : Member) (a : Artifact) → Running m → Running (appended m a)
Running-appended m a r =
    record {
      knowing = Knowing-same (held m.journal ++ a ∷ []) (held (append a m.journal)) (m.known ++ a ∷ []) (pushed_within m a) (within_pushed m a) (Knowing-push (held m.journal) m.known a r.knowing);
      made = keep_more (held m.journal) (held (append a m.journal)) (adds m a).old m.outbox r.made;
    }

kept_appended : (m : Member) (a : Artifact) → All (λ s. Keeps (kept m.journal) s.subject) m.sent → All (λ s. Keeps (kept (append a m.journal)) s.subject) m.sent
kept_appended m a h = subst (λ xs. All (λ s. Keeps xs s.subject) m.sent) (sym (append_kept (artifact_view a) a m.journal)) h

-- the journal after an append
append_at : (m : Member) (a : Artifact) → Rising 0 m.journal → Rising 0 (append a m.journal)
append_at m a r = append_rising (artifact_view a) 0 a (omega arith) m.journal r

-- the verdicts after an append
abbrev IsNewVerdict : List Artifact → Artifact → Type 0
IsNewVerdict journal a = (view : ℕ) (x y : Bool) → a ≡ Judged view x → Contains journal (Judged view y) → ⊥

verdicts_cases : (j : List Artifact) (a : Artifact) (view : ℕ) (x y : Bool) → OneVerdict j → IsNewVerdict j a
    → Contains j (Judged view x) ⊎ (a ≡ Judged view x) → Contains j (Judged view y) ⊎ (a ≡ Judged view y) → x ≡ y
verdicts_cases j a view x y one new (inl cx) (inl cy) = one view x y cx cy
verdicts_cases j a view x y one new (inl cx) (inr ey) = absurd (new view y x ey cx)
verdicts_cases j a view x y one new (inr ex) (inl cy) = absurd (new view x y ex cy)
verdicts_cases j a view x y one new (inr ex) (inr ey) = let e : Judged view x ≡ Judged view y = sym ex ∙ ey in cc

verdicts_at : (m : Member) (a : Artifact) → OneVerdict (held m.journal) → IsNewVerdict (held m.journal) a → OneVerdict (held (append a m.journal))
verdicts_at m a one new view x y cx cy = verdicts_cases (held m.journal) a view x y one new ((adds m a).only (Judged view x) cx) ((adds m a).only (Judged view y) cy)

ready_at : (length : ℕ) (m : Member) (a : Artifact) → Lives length m → Fit (held m.journal) a → ReadyAll (append a m.journal)
ready_at length m a l f = append_ready (artifact_view a) a refl 0 m.journal l.rising l.placed l.ready f

Lives-appended : (length : ℕ) (m : Member) (a : Artifact) → m.up ≡ true → Fit (held m.journal) a → IsNewVerdict (held m.journal) a → Lives length m → Lives length (appended m a)
Lives-appended length m a up f new l =
    record { verdicts = verdicts_at m a l.verdicts new; order = l.order; alone = l.alone; kept = kept_appended m a l.kept; placed = append_placed a m.journal l.placed; rising = append_at m a l.rising; ready = ready_at length m a l f; resting = λ h. cc; running = λ h. Running-appended m a (l.running up) }

module _ (length : ℕ) (pos : 0 < length) (m : Member) (up : m.up ≡ true) (l : Lives length m) where
  abbrev item : Subject → Sent
  item s = record { subject = s; known = certificates m.known }

  order_made : (s : Subject) → MayVote length m.known s → InOrder length (m.sent ++ (m.outbox ++ item s ∷ []))
  order_made s r =
      rw (← append_assoc m.sent m.outbox (item s ∷ [])) (all_pairs_push (λ (t : Sent) (u : Sent). MayFollow length t.subject u.subject u.known) (m.sent ++ m.outbox) (item s) l.order
      (λ k d lt. may_follow length (held m.journal) m.known pos (l.running up).knowing _ s (all_kept m l.kept (l.running up) k d lt) r))

  alone_made : (s : Subject) → MayVote length m.known s → Alone length (m.sent ++ (m.outbox ++ item s ∷ []))
  alone_made s r = rw (← append_assoc m.sent m.outbox (item s ∷ [])) (All-push (λ (t : Sent). MayStand length t.subject t.known) (m.sent ++ m.outbox) (item s) l.alone (may_stand length m.known s r))

  Lives-vote : (s : Subject) → MayVote length m.known s → Lives length (appended (queued m s) (Own s))
  Lives-vote s r =
      record {
        order = order_made s r;
        alone = alone_made s r;
        kept = kept_appended m (Own s) l.kept;
        placed = append_placed (Own s) m.journal l.placed;
        rising = append_at m (Own s) l.rising;
        ready = ready_at length m (Own s) l tt;
        verdicts = verdicts_at m (Own s) l.verdicts (λ view x y e c. cc);
        resting = λ h. cc;
        running = λ h. record {
          knowing = (Running-appended m (Own s) (l.running up)).knowing;
          made = All-push (λ (t : Sent). Keeps (held (append (Own s) m.journal)) t.subject) m.outbox (item s) (Running-appended m (Own s) (l.running up)).made
              (Keeps-within (held m.journal ++ Own s ∷ []) (held (append (Own s) m.journal)) (pushed_within m (Own s)) s (vote_keeps length (held m.journal) m.known (l.running up).knowing s r));
        };
      }

  Lives-repeat : (r : Round) → MayVote length m.known (Nullify r) → Contains m.known (Own (Nullify r)) → Lives length (queued m (Nullify r))
  Lives-repeat r e own =
      record {
        order = order_made (Nullify r) e;
        alone = alone_made (Nullify r) e;
        kept = l.kept;
        placed = l.placed;
        rising = l.rising;
        ready = l.ready;
        verdicts = l.verdicts;
        resting = l.resting;
        running = λ h. record {
          knowing = (l.running up).knowing;
          made = All-push (λ (t : Sent). Keeps (held m.journal) t.subject) m.outbox (item (Nullify r)) (l.running up).made
              (inl ((l.running up).knowing.stands (Own (Nullify r)) own e.0));
        };
      }

Lives-sync : (length : ℕ) (m : Member) (v : ℕ) → m.up ≡ true → Lives length m → Lives length (happens m (Sync v))
Lives-sync length m v up l =
    record {
      order = l.order;
      alone = l.alone;
      kept = keep_more (kept m.journal) (kept (sync v m.journal)) (sync_kept v m.journal) m.sent l.kept;
      placed = sync_placed v m.journal l.placed;
      rising = sync_rising v 0 m.journal l.rising;
      ready = sync_ready v m.journal l.ready;
      verdicts = subst OneVerdict (sym (sync_held v m.journal)) l.verdicts;
      resting = λ h. cc;
      running = λ h. record {
        knowing = subst (λ xs. Knowing xs m.known) (sym (sync_held v m.journal)) (l.running up).knowing;
        made = subst (λ xs. All (λ s. Keeps xs s.subject) m.outbox) (sym (sync_held v m.journal)) (l.running up).made;
      };
    }

Lives-publish : (length : ℕ) (m : Member) → m.up ≡ true → waiting m.journal ≡ [] → Lives length m → (box : List Sent) → m.outbox ≡ box → Lives length (published m box)
Lives-publish length m up e l [] is = l
Lives-publish length m up e l (s ∷ rest) is =
    let P : Sent → Type 0 = λ t. Keeps (held m.journal) t.subject in
    let box : All P (s ∷ rest) = subst (All P) is (l.running up).made in
    record {
      order = rw append_assoc (subst (λ xs. InOrder length (m.sent ++ xs)) is l.order);
      alone = rw append_assoc (subst (λ xs. Alone length (m.sent ++ xs)) is l.alone);
      kept = All-push (λ (t : Sent). Keeps (kept m.journal) t.subject) m.sent s l.kept (subst (λ xs. Keeps xs s.subject) (held_kept m.journal e) (All-head P s rest box));
      placed = l.placed;
      rising = l.rising;
      ready = l.ready;
      verdicts = l.verdicts;
      resting = l.resting;
      running = λ h. record { knowing = (l.running up).knowing; made = All-tail P s rest box };
    }

-- the sections from min on hold what stands at or above min
prune_from : (min : ℕ) (j : List Section) → Placed j → Within (pruned min (kept j)) (kept (prune min j))
prune_from min j p a c =
    prune_has min j p a (leb-true min (artifact_view a) (All-contains (λ b. nat_le min (artifact_view b) ≡ true) (pruned min (kept j)) a (filter_passes (λ b. nat_le min (artifact_view b)) (kept j)) c))
    (Contains-from_filter (λ b. nat_le min (artifact_view b)) (kept j) a c)

prune_knowing : (min : ℕ) (j : List Section) (known : List Artifact) → Placed j → min ≤ last_finalized known → Knowing (kept j) known → Knowing (kept (prune min j)) known
prune_knowing min j known p le k =
    let f : Knowing (pruned min (kept j)) known = Knowing-pruned min (kept j) known le k in
    record {
      finals = λ a c. k.finals a (prune_within min j a c);
      seen = λ a c lt. k.seen a (prune_within min j a c) lt;
      stands = λ a c lt. prune_from min j p a (f.stands a c lt);
      floor = λ pos. let b = f.floor pos in (b.0, prune_from min j p b.0 b.1, b.2);
    }

Lives-prune : (length : ℕ) (m : Member) (min : ℕ) → m.up ≡ true → waiting m.journal ≡ [] → min ≤ last_finalized m.known → Lives length m → Lives length (happens m (Prune min))
Lives-prune length m min up e le l =
    let j : List Section = m.journal in
    let k : Knowing (kept j) m.known = subst (λ xs. Knowing xs m.known) (held_kept j e) (l.running up).knowing in
    let whole : held (prune min j) ≡ kept (prune min j) = held_kept (prune min j) (prune_waiting min j e) in
    let out : All (λ s. Keeps (kept j) s.subject) m.outbox = subst (λ xs. All (λ s. Keeps xs s.subject) m.outbox) (held_kept j e) (l.running up).made in
    let f : (s : Sent) → Keeps (kept j) s.subject → Keeps (kept (prune min j)) s.subject =
    λ s h. Keeps-within (pruned min (kept j)) (kept (prune min j)) (prune_from min j l.placed) s.subject (Keeps-pruned min (kept j) m.known le k s.subject h) in
    let g : Knowing (kept (prune min j)) m.known = prune_knowing min j m.known l.placed le k in
    record {
      order = l.order;
      alone = l.alone;
      kept = All-weaker (λ (s : Sent). Keeps (kept j) s.subject) (λ (s : Sent). Keeps (kept (prune min j)) s.subject) f m.sent l.kept;
      placed = prune_placed min j l.placed;
      rising = prune_rising min 0 j l.rising;
      ready = prune_ready min j l.ready;
      verdicts = OneVerdict-within (held (prune min j)) (held j) (prune_held min j) l.verdicts;
      resting = λ h. cc;
      running = λ h. record {
        knowing = subst (λ xs. Knowing xs m.known) (sym whole) g;
        made = subst (λ xs. All (λ s. Keeps xs s.subject) m.outbox) (sym whole) (All-weaker (λ (s : Sent). Keeps (kept j) s.subject) (λ (s : Sent). Keeps (kept (prune min j)) s.subject) f m.outbox out);
      };
    }

Lives-crash : (length : ℕ) (m : Member) (keep : ℕ → ℕ) → Lives length m → Lives length (happens m (Crash keep))
Lives-crash length m keep l =
    record {
      order = AllPairs-front_alone (λ (s : Sent) (t : Sent). MayFollow length s.subject t.subject t.known) m.sent m.outbox l.order;
      alone = All-front_alone (λ (s : Sent). MayStand length s.subject s.known) m.sent m.outbox l.alone;
      kept = keep_more (kept m.journal) (kept (left keep m.journal)) (left_kept keep m.journal) m.sent l.kept;
      placed = left_placed keep m.journal l.placed;
      rising = left_rising keep 0 m.journal l.rising;
      ready = left_ready keep m.journal l.ready;
      verdicts = OneVerdict-within (held (left keep m.journal)) (held m.journal) (left_held keep m.journal) l.verdicts;
      resting = λ h. left_waiting keep m.journal;
      running = λ h. cc;
    }

all_rising : (xs : List Artifact) (j : List Section) → Rising 0 j → Rising 0 (append_all xs j)
all_rising [] j h = h
all_rising (x ∷ xs) j h = all_rising xs (append x j) (append_rising (artifact_view x) 0 x (omega arith) j h)

-- these need nothing before them
abbrev Certain : List Artifact → Type 0
Certain [] = Unit {0}
Certain (a ∷ xs) = ((before : List Artifact) → Fit before a) × Certain xs

all_ready : (xs : List Artifact) (j : List Section) → Certain xs → Rising 0 j → Placed j → ReadyAll j → ReadyAll (append_all xs j)
all_ready [] j c r p h = h
all_ready (x ∷ xs) j c r p h =
    all_ready xs (append x j) c.1 (append_rising (artifact_view x) 0 x (omega arith) j r) (append_placed x j p) (append_ready (artifact_view x) x refl 0 j r p h (c.0 (held j)))

in_floor : (floor : List Artifact) (b : Bool) → Within (if b then [] else floor) floor
in_floor floor true a c = absurd (not_in_empty a c)
in_floor floor false a c = c

-- the journal after a start
abbrev opened : List Section → List Artifact → Bool → List Section
opened j floor b = if b then j else append_all floor j

opened_placed : (j : List Section) (floor : List Artifact) (b : Bool) → Placed j → Placed (opened j floor b)
opened_placed j floor true h = h
opened_placed j floor false h = append_all_placed floor j h

opened_rising : (j : List Section) (floor : List Artifact) (b : Bool) → Rising 0 j → Rising 0 (opened j floor b)
opened_rising j floor true h = h
opened_rising j floor false h = all_rising floor j h

opened_ready : (j : List Section) (floor : List Artifact) (b : Bool) → Certain floor → Rising 0 j → Placed j → ReadyAll j → ReadyAll (opened j floor b)
opened_ready j floor true c r p h = h
opened_ready j floor false c r p h = all_ready floor j c r p h

opened_kept : (j : List Section) (floor : List Artifact) (b : Bool) → kept (opened j floor b) ≡ kept j
opened_kept j floor true = refl
opened_kept j floor false = append_all_kept floor j

opened_to : (j : List Section) (floor : List Artifact) → waiting j ≡ [] → (b : Bool) → Within (kept j ++ (if b then [] else floor)) (held (opened j floor b))
opened_to j floor e true a c = kept_held j a (rw append-nil at c)
opened_to j floor e false a c = append_all_to floor j a (subst (λ xs. Contains (xs ++ floor) a) (sym (held_kept j e)) c)

opened_from : (j : List Section) (floor : List Artifact) → waiting j ≡ [] → (b : Bool) → Within (held (opened j floor b)) (kept j ++ (if b then [] else floor))
opened_from j floor e true a c = rw append-nil (subst (λ xs. Contains xs a) (held_kept j e) c)
opened_from j floor e false a c = subst (λ xs. Contains (xs ++ floor) a) (held_kept j e) (append_all_from floor j a c)

opened_all : (j : List Section) (floor : List Artifact) → waiting j ≡ [] → (b : Bool) → Within (held (opened j floor b)) (floor ++ kept j)
opened_all j floor e b a c =
    elim (Contains-append_cases (kept j) (if b then [] else floor) a (opened_from j floor e b a c)) [
      | inl k ↦ Contains-append_right floor (kept j) a k
      | inr f ↦ Contains-append_left floor (kept j) a (in_floor floor b a f)
    ]

-- a floor brings no verdict
no_verdict : (floor : List Artifact) → Certain floor → (view : ℕ) (x : Bool) → Contains floor (Judged view x) → ⊥
no_verdict [] c view x k = not_in_empty (Judged view x) k
no_verdict (a ∷ rest) c view x k =
    elim (Contains-cons_cases a rest (Judged view x) k) [
      | inl e ↦ let n : Noted [] view = subst (Fit []) e (c.0 []) in not_in_empty _ n.2
      | inr r ↦ no_verdict rest c.1 view x r
    ]

with_floor : (floor xs : List Artifact) → Certain floor → OneVerdict xs → OneVerdict (floor ++ xs)
with_floor floor xs certain one view x y cx cy =
    elim (Contains-append_cases floor xs (Judged view x) cx) [
      | inl f ↦ absurd (no_verdict floor certain view x f)
      | inr kx ↦ elim (Contains-append_cases floor xs (Judged view y) cy) [
        | inl f ↦ absurd (no_verdict floor certain view y f)
        | inr ky ↦ one view x y kx ky
      ]
    ]

Lives-start : (length : ℕ) (m : Member) (view : ℕ) (floor : List Artifact) → m.up ≡ false → greatest finalized_view floor ≡ view → ((a : Artifact) → Contains floor a → artifact_view a ≤ view) → Certain floor → Lives length m → Lives length (started m view floor)
Lives-start length m view floor down is low certain l =
    let b : Bool = nat_le view (last_finalized (kept m.journal)) in
    let e : waiting m.journal ≡ [] = l.resting down in
    let one : OneVerdict (floor ++ kept m.journal) = with_floor floor (kept m.journal) certain (OneVerdict-within (kept m.journal) (held m.journal) (kept_held m.journal) l.verdicts) in
    let fresh : List Artifact = filter (λ a. nat_lt view (artifact_view a)) (kept m.journal) in
    record {
      order = AllPairs-front_alone (λ (s : Sent) (t : Sent). MayFollow length s.subject t.subject t.known) m.sent m.outbox l.order;
      alone = All-front_alone (λ (s : Sent). MayStand length s.subject s.known) m.sent m.outbox l.alone;
      kept = subst (λ xs. All (λ s. Keeps xs s.subject) m.sent) (sym (opened_kept m.journal floor b)) l.kept;
      placed = opened_placed m.journal floor b l.placed;
      rising = opened_rising m.journal floor b l.rising;
      ready = opened_ready m.journal floor b certain l.rising l.placed l.ready;
      verdicts = OneVerdict-within (held (opened m.journal floor b)) (floor ++ kept m.journal) (opened_all m.journal floor e b) one;
      resting = λ h. cc;
      running = λ h. record {
        knowing = Knowing-replay (held (opened m.journal floor b)) floor (filter (λ a. nat_lt view (artifact_view a)) (kept m.journal))
            (Ready-filter view [] floor (kept m.journal) (λ c lt k. absurd (not_in_empty (Proved c) k)) (kept_ready m.journal l.ready))
            (OneVerdict-within (floor ++ fresh) (floor ++ kept m.journal) (both_within floor floor fresh (kept m.journal) (λ a c. c) (Contains-from_filter (λ a. nat_lt view (artifact_view a)) (kept m.journal))) one)
            (Knowing-same (kept m.journal ++ (if b then [] else floor)) (held (opened m.journal floor b)) (floor ++ filter (λ a. nat_lt view (artifact_view a)) (kept m.journal))
            (opened_to m.journal floor e b) (opened_from m.journal floor e b) (Knowing-start (kept m.journal) floor view is low b refl));
        made = All-nil (λ (s : Sent). Keeps (held (opened m.journal floor b)) s.subject);
      };
    }

-- a verdict that is taken stands behind its notarization, and is the first on its view
Lives-judge : (length : ℕ) (m : Member) (v : ℕ) (verdict : Bool) → m.up ≡ true → is_taken m.known (Judged v verdict) ≡ true → Lives length m → Lives length (appended m (Judged v verdict))
Lives-judge length m v verdict up h l =
    let t : (nat_lt (last_finalized m.known) v ≡ true) × (has_notarization v m.known ≡ true) × (has_verdict v m.known ≡ false) = taken_parts (nat_lt (last_finalized m.known) v) (has_notarization v m.known) (has_verdict v m.known) h in
    let above : last_finalized m.known < v = ltb-true (last_finalized m.known) v t.0 in
    let n : Noted m.known v = Noted-from_test m.known v t.1 in
    let k : Knowing (held m.journal) m.known = (l.running up).knowing in
    Lives-appended length m (Judged v verdict) up (n.0, n.1, k.stands _ n.2 (omega (arith, above, n.3)), n.3)
    (λ view x y e c.
    let same : v ≡ view = ap artifact_view e in
    let old : has_verdict v m.known ≡ true = test_from_verdict m.known v y (k.seen (Judged v y) (subst (λ w. Contains (held m.journal) (Judged w y)) (sym same) c) above) in
    let new : has_verdict v m.known ≡ false = t.2 in
    cc)
    l

pub Lives-happens : (length : ℕ) → 0 < length → (m : Member) (e : Call) → May length m e → Lives length m → Lives length (happens m e)
Lives-happens length pos m Start h l = Lives-start length m 0 [] h refl (λ a c. absurd (not_in_empty a c)) tt l
Lives-happens length pos m (StartAt p signers) h l =
    let a : Artifact = Proved (record { subject = Finalize p; signers = signers }) in
    Lives-start length m (view_of p) (a ∷ []) h (omega arith) (λ b c. elim (Contains-cons_cases a [] b c) [ inl e ↦ omega (arith, ap artifact_view e) | inr n ↦ absurd (not_in_empty b n) ]) (λ before. tt, tt) l
Lives-happens length pos m (Take c) h l = Lives-appended length m (Proved c) h tt (λ view x y e k. cc) l
Lives-happens length pos m (Judge v verdict) h l = Lives-judge length m v verdict h.0 h.1 l
Lives-happens length pos m (Vote s) h l = Lives-vote length pos m h.0 l s h.1
Lives-happens length pos m (Repeat r) h l = Lives-repeat length pos m h.0 l r h.1 h.2
Lives-happens length pos m (Sync v) h l = Lives-sync length m v h l
Lives-happens length pos m Send h l = Lives-publish length m h.0 h.1 l m.outbox refl
Lives-happens length pos m (Prune min) h l = Lives-prune length m min h.0 h.1 h.2 l
Lives-happens length pos m (Crash keep) h l = Lives-crash length m keep l

pub Lives-run : (length : ℕ) → 0 < length → (m : Member) (calls : List Call) → IsLegal length m calls → Lives length m → Lives length (run m calls)
Lives-run length pos m [] h l = l
Lives-run length pos m (e ∷ es) h l = Lives-run length pos (happens m e) es h.1 (Lives-happens length pos m e h.0 l)

pub Lives-newborn : (length : ℕ) → Lives length newborn
Lives-newborn length =
    record {
      order = λ i j d lt in'. absurd (omega (arith, in'));
      alone = All-nil (λ (s : Sent). MayStand length s.subject s.known);
      kept = All-nil (λ (s : Sent). Keeps [] s.subject);
      placed = tt;
      rising = tt;
      ready = tt;
      verdicts = λ view x y cx cy. absurd (not_in_empty _ cx);
      resting = λ h. refl;
      running = λ h. cc;
    }

-- the votes sent over all lives
pub sent_in_order : (length : ℕ) → 0 < length → (calls : List Call) → IsLegal length newborn calls → InOrder length (run newborn calls).sent
sent_in_order length pos calls legal =
    AllPairs-front (λ (s : Sent) (t : Sent). MayFollow length s.subject t.subject t.known) (run newborn calls).sent (run newborn calls).outbox (Lives-run length pos newborn calls legal (Lives-newborn length)).order

pub sent_alone : (length : ℕ) → 0 < length → (calls : List Call) → IsLegal length newborn calls → Alone length (run newborn calls).sent
sent_alone length pos calls legal =
    All-front (λ (s : Sent). MayStand length s.subject s.known) (run newborn calls).sent (run newborn calls).outbox (Lives-run length pos newborn calls legal (Lives-newborn length)).alone

pub sent_honest : (w : World) → 0 < w.term_length → (calls : List Call) → IsLegal w.term_length newborn calls → All (IsBacked w) (brought calls) → IsHonest w (run newborn calls).sent
sent_honest w pos calls legal backed =
    record { alone = sent_alone w.term_length pos calls legal; order = sent_in_order w.term_length pos calls legal; backed = good_sent (IsBacked w) calls backed }
