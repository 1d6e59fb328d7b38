-- A step that was made whole, and one that a stop ended.
use Rattle.std.proofs.Common.{◌≡◌, ℕ, zero, suc, ◌<◌, List, [], ◌∷◌, ◌++◌, take, Contains, Option, Some, None, refl, sym, ap, ◌∙◌, subst, inl, inr, ◌⊎◌, arith, append-nil}
use Rattle.std.specs.Option.{option_map_or}
use Rattle.std.proofs.lemmas.Bool.Decides.{nat_tests}
use Rattle.std.proofs.lemmas.Grind.{common_steps}
use Rattle.simplex_wire.specs.declared.artifact.Artifact.TheVariants as artifacts
use Rattle.simplex_journal.specs.Journal.{Section, pruned_first, crashed}
use Rattle.simplex_journal.specs.Contents.{IsRising}
use Rattle.simplex_journal.proofs.Records.{Contains-crashed}
use Rattle.simplex_journal.proofs.Rising.{numbers-crashed, IsRising-pruned_first}
use Rattle.simplex_messages.specs.declared.call.Call.{Call}
use Rattle.simplex_messages.specs.declared.call.Call.TheVariants as calls
use Rattle.simplex_messages.specs.declared.step.Stop.{Stop}
use Rattle.simplex_messages.specs.declared.step.Stop.TheVariants as stops
use Rattle.model_rules.specs.Known.{Fact}
use Rattle.model_rules.specs.Known as rules
use Rattle.model_steps.specs.Desk.{Doing}
use Rattle.model_steps.specs.Performed.{stop_place, after_calls, after_failing, failing_at, whole, broken, performed}
use Rattle.law_agreement.specs.World.{Sent}
use Rattle.simplex_values.specs.declared.proposal.Subject.{Subject}
use Rattle.simplex_values.specs.declared.proposal.Subject.TheVariants as subjects
use Rattle.law_agreement.specs.Artifacts as member
use Rattle.law_agreement.specs.Journal as kept
use Rattle.law_agreement.specs.Member as life
use Rattle.law_agreement.specs.Member.{Member, happens, run, IsLegal, May}
use Rattle.law_agreement.proofs.CallFacts.{run-append, IsLegal-append, brought-append}
use Rattle.law_agreement.proofs.JournalFacts.{left_waiting}
use Rattle.law_member.specs.Life.{journal_of, taken, voted, IsLowNullify, AreSent, AreOwn, IsRunning, IsStopped, IsEarlier, AreVotesSent, IsLived}
use Rattle.law_member.specs.Storing.{IsOwn, AreStoredFirst}
use Rattle.law_member.proofs.Journals.{crash_is}
use Rattle.law_member.proofs.Pruning.{prunes_less, was_there}
use Rattle.law_member.proofs.Living.{doings, doings-append, behind, AreFit-take, legal_take, journals_after, rising_afters, own_afters, brought_is, subjects_of, Sends-take, out_of}
use Rattle.law_member.proofs.Constructing.{Published}
use Rattle.law_member.proofs.Simulating.{Sim, Stores, first_take}

-- the journal at which a step begins
pub record Ready (made : rules.Made) (js : List Section) (m : Member) : Type 0 where
  pub journal : m.journal ≡ journal_of js
  pub rising : IsRising js
  pub own : AreOwn made js

nothing_left : (box : List Sent) → subjects_of box ≡ [] → box ≡ []
nothing_left [] e = refl
nothing_left (x ∷ box) e = cc

-- ---- made whole

-- all that a member lives in a step that was made whole, behind these first calls
pub record MadeWhole (made : rules.Made) (m : Member) (first : List life.Call) (cs : List Call) (facts : List Fact) (js : List Section) : Type 0 where
  pub calls : List life.Call
  pub sent : List Sent
  pub legal : IsLegal made.term_length m calls
  pub brought : life.brought calls ≡ life.brought first ++ taken cs
  pub sends : (run m calls).sent ≡ m.sent ++ sent
  pub votes : AreSent cs (subjects_of sent)
  pub from : (s : Subject) → Contains (subjects_of sent) s → Contains (subjects_of (run m first).outbox) s ⊎ Contains (voted cs) s
  pub left : IsRunning made facts js (run m calls)

pub made_whole : (made : rules.Made) (m : Member) (first : List life.Call) (cs : List Call) (facts : List Fact) (js : List Section)
    → IsLegal made.term_length m first → (run m first).sent ≡ m.sent → Ready made js (run m first)
    → Stores made (run m first) cs facts [] → MadeWhole made m first cs facts (after_calls cs js)
made_whole made m first cs facts js legal quiet ready s =
    let base = run m first in
    let sim = s.sim in
    let o = out_of base cs sim.sends in
    let joined = run-append m first (doings cs) in
    record {
      calls = first ++ doings cs;
      sent = o.sent;
      legal = IsLegal-append made.term_length m first (doings cs) legal sim.legal;
      brought = brought-append first (doings cs) ∙ ap (λ xs. life.brought first ++ xs) (brought_is cs);
      sends = ap (λ (n : Member). n.sent) joined ∙ o.sends ∙ ap (λ xs. xs ++ o.sent) quiet;
      votes = o.votes;
      from = o.from;
      left = subst (IsRunning made facts (after_calls cs js)) (sym joined) (record {
        up = sim.up;
        journal = journals_after made cs js base sim.fit ready.rising ready.journal;
        memory = sim.memory;
        outbox = nothing_left (behind base cs).outbox sim.box;
        stored = s.stored;
        rising = rising_afters cs js ready.rising;
        order = sim.order;
        own = own_afters made cs js sim.fit ready.own;
      });
    }

-- ---- ended by a stop

-- what the failing call leaves: all, or a prune in part
pub record Failing (made : rules.Made) (n : Member) (js : List Section) : Type 0 where
  pub calls : List life.Call
  pub legal : IsLegal made.term_length n calls
  pub brought : life.brought calls ≡ []
  pub sent : (run n calls).sent ≡ n.sent
  pub ready : Ready made js (run n calls)

-- the call at this place is a prune
abbrev pub IsPruneAt : List Call → ℕ → ℕ → Type 0
IsPruneAt cs place least = (rest : List Call) × (cs ≡ take place cs ++ (calls.Prune least ∷ rest))

failing_here : (stop : Stop) (c : Call) (rest : List Call) (js : List Section)
    → (after_failing stop c js ≡ js) ⊎ ((keep least : ℕ) × (c ≡ calls.Prune least) × (after_failing stop c js ≡ pruned_first keep least js))
failing_here (stops.Fail call keep) (calls.Prune least) rest js = inr (keep, least, refl, refl)
failing_here (stops.Fail call keep) (calls.Append n a) rest js = inl refl
failing_here (stops.Fail call keep) (calls.Sync n) rest js = inl refl
failing_here (stops.Fail call keep) (calls.Send channel to bytes) rest js = inl refl
failing_here (stops.Fail call keep) (calls.Report activity) rest js = inl refl
failing_here (stops.Fail call keep) (calls.Relay payload plan) rest js = inl refl
failing_here (stops.Fail call keep) (calls.Block who why) rest js = inl refl
failing_here (stops.Cut call keep) c rest js = inl refl
failing_here stops.None c rest js = inl refl

pub failing_later : (stop : Stop) (c : Call) (rest : List Call) (place : ℕ) (js : List Section) → failing_at stop (c ∷ rest) (suc place) js ≡ failing_at stop rest place js
failing_later stop c rest place js = grind (arith, nat_tests, common_steps)

failing_is : (stop : Stop) (cs : List Call) (place : ℕ) (js : List Section)
    → (failing_at stop cs place js ≡ js) ⊎ ((keep least : ℕ) × IsPruneAt cs place least × (failing_at stop cs place js ≡ pruned_first keep least js))
failing_is stop [] place js = inl refl
failing_is stop (c ∷ rest) zero js =
    elim (failing_here stop c rest js) [
      | inl same ↦ inl same
      | inr p ↦ inr (p.0, p.1, (rest, ap (λ x. x ∷ rest) p.2), p.3)
    ]
failing_is stop (c ∷ rest) (suc place) js =
    elim (failing_is stop rest place js) [
      | inl same ↦ inl (failing_later stop c rest place js ∙ same)
      | inr p ↦ inr (p.0, p.1, (p.2.0, ap (λ xs. c ∷ xs) p.2.1), failing_later stop c rest place js ∙ p.3)
    ]

IsLegal-rest : (length : ℕ) (m : Member) (xs ys : List life.Call) → IsLegal length m (xs ++ ys) → IsLegal length (run m xs) ys
IsLegal-rest length m [] ys h = h
IsLegal-rest length m (x ∷ xs) ys h = IsLegal-rest length (happens m x) xs ys h.1

-- a prune that is legal
may_prune : (made : rules.Made) (n : Member) (cs : List Call) (place least : ℕ) → IsLegal made.term_length n (doings cs) → IsPruneAt cs place least
    → May made.term_length (behind n (take place cs)) (life.Prune least)
may_prune made n cs place least legal at =
    (IsLegal-rest made.term_length n (doings (take place cs)) (life.Prune least ∷ doings at.0)
    (subst (IsLegal made.term_length n) (ap doings at.1 ∙ doings-append (take place cs) (calls.Prune least ∷ at.0)) legal)).0

failing_of : (made : rules.Made) (n : Member) (stop : Stop) (cs : List Call) (place : ℕ) (js : List Section) → IsLegal made.term_length n (doings cs)
    → Ready made js (behind n (take place cs)) → Failing made (behind n (take place cs)) (failing_at stop cs place js)
failing_of made n stop cs place js legal ready =
    elim (failing_is stop cs place js) [
      | inl same ↦ subst (Failing made (behind n (take place cs))) (sym same) (record { calls = []; legal = tt; brought = refl; sent = refl; ready = ready })
      | inr p ↦ subst (Failing made (behind n (take place cs))) (sym p.3) (in_part p.0 p.1 (may_prune made n cs place p.1 legal p.2))
    ]
  where
    in_part : (keep least : ℕ) → May made.term_length (behind n (take place cs)) (life.Prune least) → Failing made (behind n (take place cs)) (pruned_first keep least js)
    in_part keep least may =
        let less = prunes_less keep least js ready.rising in
        record {
          calls = life.Prune less.min ∷ [];
          legal = ((may.0, may.1, omega (arith, less.low, may.2)), tt);
          brought = refl;
          sent = refl;
          ready = record {
            journal = ap (kept.prune less.min) ready.journal ∙ sym less.same;
            rising = IsRising-pruned_first keep least js ready.rising;
            own = λ v c. ready.own v (was_there keep least js (artifacts.Nullify v) c);
          };
        }

-- a crash leaves the member stopped
pub stopped : (made : rules.Made) (keep : ℕ) (n : Member) (js : List Section) → Ready made js n → IsStopped made (crashed keep js) (happens n (life.Crash (λ view. keep)))
stopped made keep n js ready =
    record {
      up = refl;
      blank = refl;
      journal = ap (kept.left (λ view. keep)) ready.journal ∙ sym (crash_is keep js);
      stored = left_waiting (λ view. keep) n.journal;
      rising = rw (numbers-crashed keep js) ready.rising;
      own = λ v c. ready.own v (Contains-crashed keep js (artifacts.Nullify v) c);
    }

crash_quiet : (xs : List life.Call) (keep : ℕ → ℕ) → life.brought xs ≡ [] → life.brought (xs ++ life.Crash keep ∷ []) ≡ []
crash_quiet xs keep e = brought-append xs (life.Crash keep ∷ []) ∙ append-nil (life.brought xs) ∙ e

-- all that a member lives in a step that a stop ended, behind these first calls
pub record Ended (made : rules.Made) (m : Member) (first : List life.Call) (cs : List Call) (js : List Section) : Type 0 where
  pub calls : List life.Call
  pub sent : List Sent
  pub legal : IsLegal made.term_length m calls
  pub brought : life.brought calls ≡ life.brought first ++ taken cs
  pub sends : (run m calls).sent ≡ m.sent ++ sent
  pub votes : AreSent cs (subjects_of sent)
  pub from : (s : Subject) → Contains (subjects_of sent) s → Contains (subjects_of (run m first).outbox) s ⊎ Contains (voted cs) s
  pub left : IsStopped made js (run m calls)

pub ended_at : (made : rules.Made) (m : Member) (first : List life.Call) (stop : Stop) (keep : ℕ) (cs : List Call) (place : ℕ) (facts : List Fact) (js : List Section)
    → IsLegal made.term_length m first → (run m first).sent ≡ m.sent → Ready made js (run m first)
    → Sim made (run m first) cs facts []
    → Ended made m first (take place cs) (crashed keep (failing_at stop cs place (after_calls (take place cs) js)))
ended_at made m first stop keep cs place facts js legal quiet ready sim =
    let base = run m first in
    let front = take place cs in
    let fit = AreFit-take made place cs sim.fit in
    let js' = after_calls front js in
    let there : Ready made js' (behind base front) = record {
      journal = journals_after made front js base fit ready.rising ready.journal;
      rising = rising_afters front js ready.rising;
      own = own_afters made front js fit ready.own;
    } in
    let failing = failing_of made base stop cs place js' sim.legal there in
    let o = out_of base front (Sends-take base place cs sim.sends) in
    let last = failing.calls ++ life.Crash (λ view. keep) ∷ [] in
    let all = doings front ++ last in
    let whole_run : run m (first ++ all) ≡ happens (run (behind base front) failing.calls) (life.Crash (λ view. keep)) =
    run-append m first all ∙ run-append base (doings front) last ∙ run-append (behind base front) failing.calls (life.Crash (λ view. keep) ∷ []) in
    record {
      calls = first ++ all;
      sent = o.sent;
      legal = IsLegal-append made.term_length m first all legal
          (IsLegal-append made.term_length base (doings front) last (legal_take made.term_length base place cs sim.legal)
          (IsLegal-append made.term_length (behind base front) failing.calls (life.Crash (λ view. keep) ∷ []) failing.legal (tt, tt)));
      brought = brought-append first all ∙ ap (λ xs. life.brought first ++ xs) (brought-append (doings front) last
          ∙ ap (λ xs. life.brought (doings front) ++ xs) (crash_quiet failing.calls (λ view. keep) failing.brought) ∙ append-nil (life.brought (doings front)) ∙ brought_is front);
      sends = ap (λ (n : Member). n.sent) whole_run ∙ failing.sent ∙ o.sends ∙ ap (λ xs. xs ++ o.sent) quiet;
      votes = o.votes;
      from = o.from;
      left = subst (IsStopped made (crashed keep (failing_at stop cs place js'))) (sym whole_run)
          (stopped made keep (run (behind base front) failing.calls) (failing_at stop cs place js') failing.ready);
    }

-- the queue that the first calls leave
abbrev pub IsLowBox : rules.Made → Member → Type 0
IsLowBox made n = (s : Subject) → Contains (subjects_of n.outbox) s → IsLowNullify made s

own_of : (made : rules.Made) (m : Member) (first : List life.Call) (cs : List Call) (sent : List Sent)
    → ((s : Subject) → Contains (subjects_of sent) s → Contains (subjects_of (run m first).outbox) s ⊎ Contains (voted cs) s) → IsLowBox made (run m first)
    → (s : Subject) → Contains (subjects_of sent) s → Contains (voted cs) s ⊎ IsLowNullify made s
own_of made m first cs sent from box s k = elim (from s k) [ inl b ↦ inr (box s b) | inr v ↦ inl v ]

earlier_is : (made : rules.Made) (m n : Member) (cs : List Call) → n.known ≡ m.known → AreStoredFirst (IsEarlier n) (IsOwn made) cs → AreStoredFirst (IsEarlier m) (IsOwn made) cs
earlier_is made m n cs e = subst (λ known. AreStoredFirst (λ v. Contains known (member.Own (subjects.Nullify v.round)) × (member.last_finalized known < v.round.view)) (IsOwn made) cs) e

broken_by : (made : rules.Made) (m : Member) (first : List life.Call) (stop : Stop) (d : Doing) (js : List Section) (place : ℕ)
    → IsLegal made.term_length m first → life.brought first ≡ [] → (run m first).known ≡ m.known → (run m first).sent ≡ m.sent → Ready made js (run m first)
    → Sim made (run m first) d.calls d.desk.known [] → stop_place stop d.calls ≡ Some place → IsLowBox made (run m first) → IsLived made d.desk.known (broken stop d js place) m
unfolding stop_place
broken_by made m first stops.None d js place legal none known quiet ready sim e box = cc
broken_by made m first (stops.Cut call keep) d js place legal none known quiet ready sim e box =
    let x = ended_at made m first (stops.Cut call keep) keep d.calls place d.desk.known js legal quiet ready sim in
    record {
      calls = x.calls;
      sent = x.sent;
      legal = x.legal;
      brought = x.brought ∙ ap (λ xs. xs ++ taken (take place d.calls)) none;
      sends = x.sends;
      votes = x.votes;
      constructed = tt;
      own = own_of made m first (take place d.calls) x.sent x.from box;
      first = first_take (IsEarlier m) (IsOwn made) place d.calls (earlier_is made m (run m first) d.calls known sim.first);
      left = x.left;
    }
broken_by made m first (stops.Fail call keep) d js place legal none known quiet ready sim e box =
    let x = ended_at made m first (stops.Fail call keep) keep d.calls place d.desk.known js legal quiet ready sim in
    record {
      calls = x.calls;
      sent = x.sent;
      legal = x.legal;
      brought = x.brought ∙ ap (λ xs. xs ++ taken (take place d.calls)) none;
      sends = x.sends;
      votes = x.votes;
      constructed = tt;
      own = own_of made m first (take place d.calls) x.sent x.from box;
      first = first_take (IsEarlier m) (IsOwn made) place d.calls (earlier_is made m (run m first) d.calls known sim.first);
      left = x.left;
    }

pub lived : (made : rules.Made) (m : Member) (first : List life.Call) (stop : Stop) (d : Doing) (js : List Section)
    → IsLegal made.term_length m first → life.brought first ≡ [] → (run m first).known ≡ m.known → (run m first).sent ≡ m.sent → Ready made js (run m first)
    → Published made (run m first) d.calls d.handed d.desk.known [] → IsLowBox made (run m first) → IsLived made d.desk.known (performed stop d js) m
unfolding performed made_whole
lived made m first stop d js legal none known quiet ready p box = at (stop_place stop d.calls) refl
  where
    s : Stores made (run m first) d.calls d.desk.known []
    s = p.stores

    whole_of : IsLived made d.desk.known (whole d js) m
    whole_of =
        let x = made_whole made m first d.calls d.desk.known js legal quiet ready s in
        record {
          calls = x.calls;
          sent = x.sent;
          legal = x.legal;
          brought = x.brought ∙ ap (λ xs. xs ++ taken d.calls) none;
          sends = x.sends;
          votes = x.votes;
          own = own_of made m first d.calls x.sent x.from box;
          constructed = subst (λ (n : Member). AreVotesSent n.sent d.handed) (sym (run-append m first (doings d.calls))) p.constructed;
          first = earlier_is made m (run m first) d.calls known s.sim.first;
          left = x.left;
        }

    at : (o : Option ℕ) → stop_place stop d.calls ≡ o → IsLived made d.desk.known (option_map_or (broken stop d js) o (whole d js)) m
    at None e = whole_of
    at (Some place) e = broken_by made m first stop d js place legal none known quiet ready s.sim e box
