-- A member keeps the invariant over all its lives.
use Rattle.std.proofs.Common.{◌≡◌, ℕ, ◌<◌, ◌≤◌, Bool, true, false, nat_lt, nat_le, if◌then◌else◌, List, [], ◌∷◌, map, filter, Contains, refl, subst, inl, inr, arith}
use Rattle.std.proofs.lemmas.List.Elements.{All-contains}
use Rattle.simplex_values.specs.declared.proposal.Subject.{Subject}
use Rattle.simplex_values.specs.declared.proposal.Subject.TheVariants.{Notarize, Nullify, Finalize}
use Rattle.law_agreement.specs.World.{Sent, view_of}
use Rattle.law_agreement.proofs.ListFacts.{not_in_empty, Contains-here, Contains-there, Contains-cons_cases}
use Rattle.law_agreement.specs.Artifacts.{Artifact, Own, Proved, Judged, artifact_view, finalized_view, last_finalized}
use Rattle.law_agreement.specs.Invariant.{HasSent, KeepsInvariant, floor_from}
use Rattle.law_agreement.specs.Journal.{append_all, kept, held}
use Rattle.law_agreement.specs.Member.{Member, Call, Start, StartAt, Take, Judge, Vote, Repeat, Sync, Send, Prune, Crash, newborn, appended, published, started, happens, May, run, IsLegal}
use Rattle.law_agreement.specs.Votes.{MayVote}
use Rattle.law_agreement.proofs.Behind.{AllBehind, IsBehind, Free, append_behind, append_all_behind, sync_behind, left_behind, prune_behind, kept_grounded}
use Rattle.law_agreement.proofs.Invariant.{Lives, Lives-happens, Lives-run, Lives-newborn}
use Rattle.law_agreement.proofs.JournalFacts.{kept_held, held_kept}
use Rattle.law_agreement.proofs.Knowing.{Stands, Keeps}
use Rattle.law_agreement.proofs.KnownFacts.{certificates_from, greatest-append}
use Rattle.law_agreement.proofs.Replays.{replay_finalized}

-- ---- a finalize stands behind what it needs

vote_behind : (length : ℕ) (m : Member) (s : Subject) → m.up ≡ true → Lives length m → MayVote length m.known s → IsBehind (held m.journal) (Own s)
vote_behind length m (Notarize p) up l may = tt
vote_behind length m (Nullify r) up l may = tt
vote_behind length m (Finalize p) up l may =
    let k = (l.running up).knowing in
    ((may.2.0, k.stands _ (certificates_from m.known _ may.2.1) may.0), k.stands _ may.1 may.0)

start_behind : (length : ℕ) (m : Member) (floor : List Artifact) (b : Bool) → Free floor → Lives length m → AllBehind m.journal → AllBehind (if b then m.journal else append_all floor m.journal)
start_behind length m floor true f l h = h
start_behind length m floor false f l h = append_all_behind floor m.journal f l.rising l.placed h

publish_behind : (m : Member) (box : List Sent) → AllBehind m.journal → AllBehind (published m box).journal
publish_behind m [] h = h
publish_behind m (s ∷ rest) h = h

behind_happens : (length : ℕ) (m : Member) (e : Call) → May length m e → Lives length m → AllBehind m.journal → AllBehind (happens m e).journal
behind_happens length m Start may l h = start_behind length m [] (nat_le 0 (last_finalized (kept m.journal))) tt l h
behind_happens length m (StartAt p signers) may l h =
    start_behind length m (Proved (record { subject = Finalize p; signers = signers }) ∷ []) (nat_le (view_of p) (last_finalized (kept m.journal))) (λ before. tt, tt) l h
behind_happens length m (Take c) may l h = append_behind (Proved c) m.journal l.rising l.placed h tt
behind_happens length m (Judge v verdict) may l h = append_behind (Judged v verdict) m.journal l.rising l.placed h tt
behind_happens length m (Vote s) may l h = append_behind (Own s) m.journal l.rising l.placed h (vote_behind length m s may.0 l may.1)
behind_happens length m (Repeat r) may l h = h
behind_happens length m (Sync v) may l h = sync_behind v m.journal h
behind_happens length m Send may l h = publish_behind m m.outbox h
behind_happens length m (Prune min) may l h = prune_behind min m.journal h
behind_happens length m (Crash keep) may l h = left_behind keep m.journal h

behind_run : (length : ℕ) → 0 < length → (m : Member) (calls : List Call) → IsLegal length m calls → Lives length m → AllBehind m.journal → AllBehind (run m calls).journal
behind_run length pos m [] legal l h = h
behind_run length pos m (e ∷ es) legal l h = behind_run length pos (happens m e) es legal.1 (Lives-happens length pos m e legal.0 l) (behind_happens length m e legal.0 l h)

-- ---- what is final to it is at least the floor

abbrev IsAbove : ℕ → Member → Type 0
IsAbove view m = m.up ≡ true → view ≤ last_finalized m.known

pushed_above : (view : ℕ) (m : Member) (a : Artifact) → IsAbove view m → IsAbove view (appended m a)
pushed_above view m a h up = omega (arith, h up, greatest-append finalized_view m.known (a ∷ []))

started_above : (m : Member) (view : ℕ) (a : Artifact) → finalized_view a ≡ view → IsAbove view (started m view (a ∷ []))
started_above m view a is up =
    let fresh : List Artifact = filter (λ x. nat_lt view (artifact_view x)) (kept m.journal) in
    omega (arith, replay_finalized (a ∷ []) fresh, greatest-append finalized_view (a ∷ []) fresh, is)

published_above : (view : ℕ) (m : Member) (box : List Sent) → IsAbove view m → IsAbove view (published m box)
published_above view m [] h = h
published_above view m (s ∷ rest) h = h

run_above : (view : ℕ) (m : Member) (calls : List Call) → IsAbove view m → IsAbove (floor_from view calls) (run m calls)
run_above view m [] h = h
run_above view m (Start ∷ rest) h = run_above 0 (happens m Start) rest (λ up. omega arith)
run_above view m (StartAt p signers ∷ rest) h =
    run_above (view_of p) (happens m (StartAt p signers)) rest (started_above m (view_of p) (Proved (record { subject = Finalize p; signers = signers })) refl)
run_above view m (Take c ∷ rest) h = run_above view (happens m (Take c)) rest (pushed_above view m (Proved c) h)
run_above view m (Judge v verdict ∷ rest) h = run_above view (happens m (Judge v verdict)) rest (pushed_above view m (Judged v verdict) h)
run_above view m (Vote s ∷ rest) h = run_above view (happens m (Vote s)) rest (pushed_above view m (Own s) h)
run_above view m (Repeat r ∷ rest) h = run_above view (happens m (Repeat r)) rest h
run_above view m (Sync v ∷ rest) h = run_above view (happens m (Sync v)) rest h
run_above view m (Send ∷ rest) h = run_above view (happens m Send) rest (published_above view m m.outbox h)
run_above view m (Prune min ∷ rest) h = run_above view (happens m (Prune min)) rest h
run_above view m (Crash keep ∷ rest) h = run_above view (happens m (Crash keep)) rest (λ up. cc)

-- ---- the law

from_map : (sent : List Sent) (s : Subject) → Contains (map (λ (x : Sent). x.subject) sent) s → (x : Sent) × Contains sent x × (x.subject ≡ s)
from_map [] s k = absurd (not_in_empty s k)
from_map (x ∷ sent) s k = elim (Contains-cons_cases x.subject (map (λ (y : Sent). y.subject) sent) s k) [
  | inl e ↦ (x, Contains-here x sent, e)
  | inr r ↦ (let f = from_map sent s r in (f.0, Contains-there x sent f.0 f.1, f.2))
]

own_stands : (journal : List Artifact) (s : Subject) → Stands journal s → Contains journal (Own s)
own_stands journal (Notarize p) h = h
own_stands journal (Nullify r) h = h
own_stands journal (Finalize p) h = h.0

module _ (length : ℕ) (m : Member) (floor : ℕ) (l : Lives length m) (behind : AllBehind m.journal) (above : IsAbove floor m) where
  keeps_sent : (s : Subject) → HasSent m s → Keeps (kept m.journal) s
  keeps_sent s k = let x = from_map m.sent s k in subst (Keeps (kept m.journal)) x.2 (All-contains (λ (t : Sent). Keeps (kept m.journal) t.subject) m.sent x.0 l.kept x.1)

  invariant : KeepsInvariant floor m
  invariant =
      record {
        stands = λ s k. elim (keeps_sent s k) [ inl st ↦ inl (own_stands (kept m.journal) s st) | inr o ↦ inr o ];
        grounded = λ p k. elim (keeps_sent (Finalize p) k) [ inl st ↦ inl (kept_grounded m.journal p l.placed behind (own_stands (kept m.journal) (Finalize p) st)) | inr o ↦ inr o ];
        above = above;
        finals = λ up a c. (let r = l.running up in r.knowing.finals a (kept_held m.journal a c));
        seen = λ up a c lt. (let r = l.running up in r.knowing.seen a (kept_held m.journal a c) lt);
        final = λ up none pos. (let r = l.running up in
            let b = r.knowing.floor pos in
            let low = r.knowing.finals b.0 b.1 in
            (b.0, subst (λ xs. Contains xs b.0) (held_kept m.journal none) b.1, omega (arith, b.2, low)));
      }

pub lives_keep : (length : ℕ) (calls : List Call) → 0 < length → IsLegal length newborn calls → KeepsInvariant (floor_from 0 calls) (run newborn calls)
lives_keep length calls pos legal =
    invariant length (run newborn calls) (floor_from 0 calls) (Lives-run length pos newborn calls legal (Lives-newborn length))
    (behind_run length pos newborn calls legal (Lives-newborn length) tt) (run_above 0 newborn calls (λ up. omega arith))
