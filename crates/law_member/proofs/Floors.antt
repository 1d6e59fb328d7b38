-- A start that keeps its floor in the journal; and every start.
use Rattle.std.proofs.Common.{◌≡◌, ℕ, ◌-◌, ◌<◌, ◌==◌, Bool, true, false, nat_le, List, [], ◌∷◌, ◌++◌, take, None, refl, sym, ap, ◌∙◌, subst, inl, inr, append_assoc, if◌then◌else◌}
use Rattle.std.specs.List.{list_any}
use Rattle.simplex_wire.specs.declared.artifact.Artifact.{Artifact}
use Rattle.simplex_wire.specs.declared.artifact.Artifact.TheVariants as artifacts
use Rattle.simplex_wire.specs.declared.certificate.Finalization.{Finalization}
use Rattle.simplex_wire.specs.declared.certificate.Certificate.TheVariants as certificates
use Rattle.simplex_types.specs.declared.floor.Floor.{Floor}
use Rattle.simplex_types.specs.declared.floor.Floor.TheVariants as floors
use Rattle.model_rules.specs.Known.{Made, Fact, view_of}
use Rattle.model_rules.specs.Calls as state
use Rattle.model_rules.specs.Calls.{facts_of, prune_answer}
use Rattle.model_rules.specs.Pending.{iterated}
use Rattle.simplex_journal.specs.Journal.{Section, replayed, appended, crashed}
use Rattle.simplex_journal.proofs.Rising.{IsRising-appended}
use Rattle.simplex_messages.specs.declared.call.Call.{Call}
use Rattle.simplex_messages.specs.declared.call.Call.TheVariants as calls
use Rattle.simplex_messages.specs.declared.handed.Handed.TheVariants as handed
use Rattle.simplex_messages.specs.declared.resolver.MailboxMessage.TheVariants as resolver
use Rattle.simplex_messages.specs.declared.step.Stop.{Stop}
use Rattle.simplex_messages.specs.declared.step.Stop.TheVariants as stops
use Rattle.model_steps.specs.Desk.{Doing, begun, make, hand, append}
use Rattle.model_steps.specs.Performed.{after_calls, failing_at, performed}
use Rattle.model_steps.specs.Voter.{floor_view, stand_on, replay_all, is_final_from, keep_floor, update_message, begin_iteration, blank_desk, started}
use Rattle.model_steps.specs.VoterLife.{unread, before_reading, start_performed}
use Rattle.law_agreement.specs.Artifacts as member
use Rattle.law_agreement.specs.Journal as kept
use Rattle.law_agreement.specs.Member as life
use Rattle.law_agreement.specs.Member.{Member, happens, run}
use Rattle.law_member.specs.Life.{statement_of, IsRunning, IsStopped, IsFloor, IsBegun}
use Rattle.law_member.proofs.Journals.{append_is}
use Rattle.law_member.proofs.Living.{own_afters, subjects_of}
use Rattle.law_member.proofs.Simulating.{Stores, nothing_first, Only, writes_sync, only_append, only_from}
use Rattle.law_member.proofs.Publishing.{Storing, iteration_begins}
use Rattle.law_member.proofs.Replaying.{final_among, AllPlain, all_plain}
use Rattle.law_member.proofs.LifeStarting.{Voteless, Voteless-append, Voteless-take, plain_voteless, Takeless, none_sent, plain_after, after_append, split_at, IsBefore, IsBehind, tail_of}
use Rattle.law_member.proofs.Beginning.{iteration_calls, iteration_known, tail_voteless, tail_takeless, first_of_start, Based, based, kept_then, Cut, quiet_whole, quiet_cut, performed_of, quiet_start}
use Rattle.law_member.proofs.Stopping.{Ready, stopped}

-- ---- a start that appends its floor, behind plain calls

abbrev appending : Finalization → List Call → List Call → List Call
appending f plain rest = plain ++ (calls.Append (view_of f.proposal) (artifacts.Finalization f) ∷ rest)

append_whole : (f : Finalization) (plain rest : List Call) (js : List Section) → AllPlain plain
    → after_calls (appending f plain rest) js ≡ after_calls rest (appended (view_of f.proposal) (artifacts.Finalization f) js)
unfolding after_calls
append_whole f plain rest js p =
    after_append plain (calls.Append (view_of f.proposal) (artifacts.Finalization f) ∷ rest) js
    ∙ ap (λ x. after_calls rest (appended (view_of f.proposal) (artifacts.Finalization f) x)) (plain_after plain js p)

append_voteless : (f : Finalization) (plain rest : List Call) → AllPlain plain → Voteless rest → Voteless (appending f plain rest)
append_voteless f plain rest p v = Voteless-append plain (calls.Append (view_of f.proposal) (artifacts.Finalization f) ∷ rest) (plain_voteless plain p) (tt, v)

-- a stop before the append leaves all as it was
cut_before : (made : Made) (m : Member) (floor : Floor) (stop : Stop) (keep : ℕ) (cs : List Call) (place : ℕ) (js : List Section) → IsStopped made js m → IsBefore stop cs place
    → Cut made m floor (take place cs) (crashed keep (failing_at stop cs place (after_calls (take place cs) js)))
cut_before made m floor stop keep cs place js s before =
    record {
      calls = life.Crash (λ view. keep) ∷ [];
      legal = (tt, tt);
      brought = inl refl;
      sends = refl;
      votes = none_sent (take place cs) (plain_voteless (take place cs) before.0);
      left = subst (λ xs. IsStopped made (crashed keep xs) (happens m (life.Crash (λ view. keep))))
          (sym (before.1 (after_calls (take place cs) js) ∙ plain_after (take place cs) js before.0))
          (stopped made keep m js (record { journal = s.journal; rising = s.rising; own = s.own }));
    }

-- a stop behind it is one in what comes then
cut_behind : (made : Made) (m : Member) (floor : Floor) (stop : Stop) (keep : ℕ) (f : Finalization) (plain rest : List Call) (place : ℕ) (js : List Section) → AllPlain plain
    → Voteless rest → (b : IsBehind stop plain (calls.Append (view_of f.proposal) (artifacts.Finalization f)) rest place)
    → Cut made m floor (take b.0 rest) (crashed keep (failing_at stop rest b.0 (after_calls (take b.0 rest) (appended (view_of f.proposal) (artifacts.Finalization f) js))))
    → Cut made m floor (take place (appending f plain rest)) (crashed keep (failing_at stop (appending f plain rest) place (after_calls (take place (appending f plain rest)) js)))
cut_behind made m floor stop keep f plain rest place js p voteless b c =
    let front = take place (appending f plain rest) in
    let after : after_calls front js ≡ after_calls (take b.0 rest) (appended (view_of f.proposal) (artifacts.Finalization f) js) =
    ap (λ xs. after_calls xs js) b.1 ∙ append_whole f plain (take b.0 rest) js p in
    let same : crashed keep (failing_at stop (appending f plain rest) place (after_calls front js))
    ≡ crashed keep (failing_at stop rest b.0 (after_calls (take b.0 rest) (appended (view_of f.proposal) (artifacts.Finalization f) js))) =
    ap (crashed keep) (b.2 (after_calls front js) ∙ ap (failing_at stop rest b.0) after) in
    record {
      calls = c.calls;
      legal = c.legal;
      brought = c.brought;
      sends = c.sends;
      votes = none_sent front (Voteless-take place (appending f plain rest) (append_voteless f plain rest p voteless));
      left = subst (λ xs. IsStopped made xs (run m c.calls)) (sym same) c.left;
    }

floor_ready : (made : Made) (m : Member) (f : Finalization) (js : List Section) (base : Member) → IsStopped made js m
    → base.journal ≡ kept.append (member.Proved (statement_of (certificates.Finalization f))) m.journal
    → Ready made (appended (view_of f.proposal) (artifacts.Finalization f) js) base
unfolding after_calls
floor_ready made m f js base s e =
    record {
      journal = e ∙ ap (kept.append (member.Proved (statement_of (certificates.Finalization f)))) s.journal ∙ sym (append_is (view_of f.proposal) (artifacts.Finalization f) js refl);
      rising = IsRising-appended (view_of f.proposal) (artifacts.Finalization f) js s.rising;
      own = own_afters made (calls.Append (view_of f.proposal) (artifacts.Finalization f) ∷ []) js (refl, tt) s.own;
    }

-- what is synced then
floor_synced : (made : Made) (m : Member) (f : Finalization) (first : List life.Call) (facts : List Fact) (js : List Section) → IsStopped made js m
    → Based made m first (floors.Finalized f) facts → (run m first).journal ≡ kept.append (member.Proved (statement_of (certificates.Finalization f))) m.journal
    → Stores made (run m first) (calls.Sync (view_of f.proposal) ∷ []) facts []
floor_synced made m f first facts js s b e =
    writes_sync made (run m first) (view_of f.proposal) [] true facts []
    (record {
      sim = record { legal = tt; up = b.up; memory = b.memory; order = b.order; box = ap subjects_of b.outbox; fit = tt; sends = tt; first = nothing_first made (run m first) };
      only = subst (Only (view_of f.proposal)) (sym e) (only_append (view_of f.proposal) (member.Proved (statement_of (certificates.Finalization f))) m.journal refl (only_from (view_of f.proposal) m.journal s.stored));
      unwritten = λ h. cc;
      noted = tt;
      earlier = λ h. tt;
    })

pub keeping_start : (made : Made) (now : ℕ) (m : Member) (first : List life.Call) (f : Finalization) (stop : Stop) (d : Doing) (more : Doing → Doing) (js : List Section)
    → IsStopped made js m → Based made m first (floors.Finalized f) d.desk.known
    → (run m first).journal ≡ kept.append (member.Proved (statement_of (certificates.Finalization f))) m.journal → AllPlain d.calls
    → ((x : Doing) → (more x).calls ≡ x.calls) → ((x : Doing) → (more x).desk ≡ x.desk)
    → (let kept = more (make (calls.Sync (view_of f.proposal)) (append (artifacts.Finalization f) d)) in
    IsBegun made (floors.Finalized f) (begin_iteration made now kept).desk.known (performed stop (begin_iteration made now kept) js) m)
keeping_start made now m first f stop d more js s b e plain same_calls same_desk =
    let view = view_of f.proposal in
    let base = run m first in
    let kept = more (make (calls.Sync view) (append (artifacts.Finalization f) d)) in
    let all = begin_iteration made now kept in
    let short = record d { calls = calls.Sync view ∷ [] } in
    let later = begin_iteration made now short in
    let rest = later.calls in
    let o = prune_answer made (iterated made now d.desk).known in
    let rest_is : rest ≡ (calls.Sync view ∷ []) ++ tail_of o = iteration_calls made now short in
    let all_is : all.calls ≡ appending f d.calls rest =
    iteration_calls made now kept
    ∙ ap (λ desk. kept.calls ++ tail_of (prune_answer made (iterated made now desk).known)) (same_desk _)
    ∙ ap (λ xs. xs ++ tail_of o) (same_calls _)
    ∙ ap (λ xs. xs ++ tail_of o) (append_assoc d.calls (calls.Append view (artifacts.Finalization f) ∷ []) (calls.Sync view ∷ []))
    ∙ append_assoc d.calls (calls.Append view (artifacts.Finalization f) ∷ calls.Sync view ∷ []) (tail_of o)
    ∙ ap (λ xs. d.calls ++ (calls.Append view (artifacts.Finalization f) ∷ xs)) (sym rest_is) in
    let known_is : all.desk.known ≡ later.desk.known =
    iteration_known made now kept ∙ ap (λ desk. facts_of made (iterated made now desk).known state.Prune ++ (iterated made now desk).known) (same_desk _) ∙ sym (iteration_known made now short) in
    let ready = floor_ready made m f js base s e in
    let stores : Storing made base later [] = iteration_begins made base now short (floor_synced made m f first d.desk.known js s b e) in
    let voteless : Voteless rest = subst Voteless (sym rest_is) (tt, tail_voteless o) in
    let takeless : Takeless rest = subst Takeless (sym rest_is) (tt, tail_takeless o) in
    let shorter = quiet_whole made m first (floors.Finalized f) later (appended view (artifacts.Finalization f) js) b.legal b.brought b.sent ready voteless takeless stores in
    let front : after_calls all.calls js ≡ after_calls rest (appended view (artifacts.Finalization f) js) = ap (λ xs. after_calls xs js) all_is ∙ append_whole f d.calls rest js plain in
    performed_of made m (floors.Finalized f) stop all js
    (record {
      calls = shorter.calls;
      legal = shorter.legal;
      brought = shorter.brought;
      sends = shorter.sends;
      votes = none_sent all.calls (subst Voteless (sym all_is) (append_voteless f d.calls rest plain voteless));
      left = subst (λ xs. IsRunning made all.desk.known xs (run m shorter.calls)) (sym front)
          (subst (λ known. IsRunning made known (after_calls rest (appended view (artifacts.Finalization f) js)) (run m shorter.calls)) (sym known_is) shorter.left);
    })
    (λ keep place.
    subst (λ cs. Cut made m (floors.Finalized f) (take place cs) (crashed keep (failing_at stop cs place (after_calls (take place cs) js)))) (sym all_is)
    (elim (split_at stop d.calls view (artifacts.Finalization f) rest place plain) [
      | inl before ↦ cut_before made m (floors.Finalized f) stop keep (appending f d.calls rest) place js s before
      | inr behind ↦ cut_behind made m (floors.Finalized f) stop keep f d.calls rest place js plain voteless behind
          (quiet_cut made m first (floors.Finalized f) stop keep rest behind.0 later.desk.known (appended view (artifacts.Finalization f) js)
          b.legal b.brought b.sent ready voteless takeless stores.sim)
    ]))

-- ---- every start

genesis_journal : (m : Member) → (run m (life.Start ∷ [])).journal ≡ m.journal
genesis_journal m = at (nat_le 0 (member.last_finalized (kept.kept m.journal)))
  where
    at : (b : Bool) → (if b then m.journal else m.journal) ≡ m.journal
    at true = refl
    at false = refl

floor_there : (made : Made) (f : Finalization) (js : List Section) (m : Member) → IsStopped made js m → 0 < view_of f.proposal
    → nat_le (view_of f.proposal) (member.last_finalized (kept.kept m.journal)) ≡ list_any (is_final_from (view_of f.proposal)) (replayed js)
floor_there made f js m s pos = ap (λ xs. nat_le (view_of f.proposal) (member.last_finalized xs)) (kept_then made js m s) ∙ sym (final_among (view_of f.proposal) (replayed js) pos)

floor_journal : (made : Made) (f : Finalization) (js : List Section) (m : Member) (b : Bool) → IsStopped made js m → 0 < view_of f.proposal
    → list_any (is_final_from (view_of f.proposal)) (replayed js) ≡ b
    → (run m (first_of_start (floors.Finalized f))).journal ≡ (if b then m.journal else kept.append (member.Proved (statement_of (certificates.Finalization f))) m.journal)
floor_journal made f js m b s pos e =
    ap (λ t. if t then m.journal else kept.append (member.Proved (statement_of (certificates.Finalization f))) m.journal) (floor_there made f js m s pos ∙ e)

-- what a start has done before it keeps its floor
abbrev before_keeping : Made → ℕ → Floor → List Section → Doing
before_keeping made now floor js =
    hand (handed.Resolver resolver.Replayed) (replay_all made now (floor_view floor) (stand_on made now floor (begun blank_desk)) (replayed js))

abbrev updating : Made → Doing → Doing
updating made d = hand (update_message made d.desk.known None) d

stand_plain : (made : Made) (now : ℕ) (floor : Floor) → AllPlain (stand_on made now floor (begun blank_desk)).calls
stand_plain made now (floors.Genesis payload) = tt
stand_plain made now (floors.Finalized f) = (tt, tt)

start_performed_is : (made : Made) (now : ℕ) (floor : Floor) (stop : Stop) (js : List Section) (m : Member) → IsFloor floor → IsStopped made js m
    → IsBegun made floor (started made now floor (replayed js)).desk.known (performed stop (started made now floor (replayed js)) js) m
unfolding started
start_performed_is made now (floors.Genesis payload) stop js m good s =
    let floor = floors.Genesis payload in
    let d = updating made (before_keeping made now floor js) in
    quiet_start made now m (first_of_start floor) floor stop d js s (based made now floor js m s) (genesis_journal m)
    (all_plain made now 0 (stand_on made now floor (begun blank_desk)) (replayed js) (stand_plain made now floor))
start_performed_is made now (floors.Finalized f) stop js m good s = at (list_any (is_final_from (view_of f.proposal)) (replayed js)) refl
  where
    at : (b : Bool) → list_any (is_final_from (view_of f.proposal)) (replayed js) ≡ b
        → (let d = before_keeping made now (floors.Finalized f) js in
        let kept = if b then d else make (calls.Sync (view_of f.proposal)) (append (artifacts.Finalization f) d) in
        IsBegun made (floors.Finalized f) (begin_iteration made now (updating made kept)).desk.known (performed stop (begin_iteration made now (updating made kept)) js) m)
    at true e =
        let floor = floors.Finalized f in
        quiet_start made now m (first_of_start floor) floor stop (updating made (before_keeping made now floor js)) js s (based made now floor js m s)
        (floor_journal made f js m true s good e)
        (all_plain made now (view_of f.proposal) (stand_on made now floor (begun blank_desk)) (replayed js) (stand_plain made now floor))
    at false e =
        let floor = floors.Finalized f in
        keeping_start made now m (first_of_start floor) f stop (before_keeping made now floor js) (updating made) js s (based made now floor js m s)
        (floor_journal made f js m false s good e)
        (all_plain made now (view_of f.proposal) (stand_on made now floor (begun blank_desk)) (replayed js) (stand_plain made now floor))
        (λ x. refl) (λ x. refl)

-- a start whose reading fails
unread_start : (made : Made) (floor : Floor) (d : Doing) (keep : ℕ) (js : List Section) (m : Member) → IsStopped made js m → Voteless (take (before_reading floor) d.calls)
    → IsBegun made floor d.desk.known (unread floor d keep js) m
unread_start made floor d keep js m s voteless =
    record {
      calls = life.Crash (λ view. keep) ∷ [];
      legal = (tt, tt);
      brought = inl refl;
      sends = refl;
      votes = none_sent (take (before_reading floor) d.calls) voteless;
      left = stopped made keep m js (record { journal = s.journal; rising = s.rising; own = s.own });
    }

iteration_voteless : (made : Made) (now : ℕ) (d : Doing) → Voteless d.calls → Voteless (begin_iteration made now d).calls
iteration_voteless made now d v =
    let o = prune_answer made (iterated made now d.desk).known in
    subst Voteless (sym (iteration_calls made now d)) (Voteless-append d.calls (tail_of o) v (tail_voteless o))

before_voteless : (made : Made) (now : ℕ) (floor : Floor) (js : List Section) → Voteless (before_keeping made now floor js).calls
before_voteless made now floor js =
    plain_voteless (before_keeping made now floor js).calls (all_plain made now (floor_view floor) (stand_on made now floor (begun blank_desk)) (replayed js) (stand_plain made now floor))

keeping_voteless : (floor : Floor) (records : List Artifact) (d : Doing) → Voteless d.calls → Voteless (keep_floor floor records d).calls
keeping_voteless (floors.Genesis payload) records d v = v
keeping_voteless (floors.Finalized f) records d v = at (list_any (is_final_from (view_of f.proposal)) records)
  where
    at : (b : Bool) → Voteless (if b then d else make (calls.Sync (view_of f.proposal)) (append (artifacts.Finalization f) d)).calls
    at true = v
    at false =
        Voteless-append (d.calls ++ calls.Append (view_of f.proposal) (artifacts.Finalization f) ∷ []) (calls.Sync (view_of f.proposal) ∷ [])
        (Voteless-append d.calls (calls.Append (view_of f.proposal) (artifacts.Finalization f) ∷ []) v (tt, tt)) (tt, tt)

start_voteless : (made : Made) (now : ℕ) (floor : Floor) (js : List Section) → Voteless (started made now floor (replayed js)).calls
unfolding started
start_voteless made now floor js =
    let d = before_keeping made now floor js in
    iteration_voteless made now (updating made (keep_floor floor (replayed js) d)) (keeping_voteless floor (replayed js) d (before_voteless made now floor js))

pub start_lived : (made : Made) (now : ℕ) (floor : Floor) (stop : Stop) (js : List Section) (m : Member) → IsFloor floor → IsStopped made js m
    → IsBegun made floor (started made now floor (replayed js)).desk.known (start_performed stop floor (started made now floor (replayed js)) js) m
unfolding start_performed
start_lived made now floor stops.None js m good s = start_performed_is made now floor stops.None js m good s
start_lived made now floor (stops.Cut call keep) js m good s = start_performed_is made now floor (stops.Cut call keep) js m good s
start_lived made now floor (stops.Fail call keep) js m good s = at (call == 1)
  where
    at : (b : Bool) → IsBegun made floor (started made now floor (replayed js)).desk.known
        (if b then unread floor (started made now floor (replayed js)) keep js else performed (stops.Fail (call - 1) keep) (started made now floor (replayed js)) js) m
    at true = unread_start made floor (started made now floor (replayed js)) keep js m s
        (Voteless-take (before_reading floor) (started made now floor (replayed js)).calls (start_voteless made now floor js))
    at false = start_performed_is made now floor (stops.Fail (call - 1) keep) js m good s

-- ---- a crash between two steps

pub crash_lived : (made : Made) (keep : ℕ) (facts : List Fact) (js : List Section) (m : Member) → IsRunning made facts js m
    → IsStopped made (crashed keep js) (happens m (life.Crash (λ view. keep)))
crash_lived made keep facts js m r = stopped made keep m js (record { journal = r.journal; rising = r.rising; own = r.own })
