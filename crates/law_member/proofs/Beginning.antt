-- A start is lived, at genesis or at a floor, and wherever a stop ends it.
use Rattle.std.proofs.Common.{◌≡◌, ℕ, true, nat_lt, List, [], ◌∷◌, ◌++◌, map, take, filter, Option, Some, None, refl, sym, ap, ◌∙◌, subst, inr, ◌⊎◌, arith, append-nil}
use Rattle.std.specs.Option.{option_map_or}
use Rattle.simplex_wire.specs.declared.attestation.Attestation.{Attestation}
use Rattle.simplex_wire.specs.declared.certificate.Finalization.{Finalization}
use Rattle.simplex_wire.specs.declared.certificate.Certificate.TheVariants as certificates
use Rattle.simplex_types.specs.declared.floor.Floor.{Floor}
use Rattle.simplex_types.specs.declared.floor.Floor.TheVariants as floors
use Rattle.model_rules.specs.Known.{Made, Fact, FloorAt, Added, view_of}
use Rattle.model_rules.specs.Calls as state
use Rattle.model_rules.specs.Calls.{facts_of, prune_answer}
use Rattle.model_rules.specs.Pending.{iterated}
use Rattle.simplex_journal.specs.Journal.{Section, replayed, crashed}
use Rattle.simplex_messages.specs.declared.call.Call.{Call}
use Rattle.simplex_messages.specs.declared.step.Stop.{Stop}
use Rattle.simplex_messages.specs.declared.step.Stop.TheVariants as stops
use Rattle.model_steps.specs.Desk.{Doing, begun, tell, seek}
use Rattle.model_steps.specs.Performed.{stop_place, after_calls, failing_at, whole, broken, performed}
use Rattle.model_steps.specs.Voter.{floor_view, stand_on, replay_all, prune_at, prune, begin_iteration, blank_desk}
use Rattle.law_agreement.specs.Artifacts as member
use Rattle.law_agreement.specs.Journal as kept
use Rattle.law_agreement.specs.Member as life
use Rattle.law_agreement.specs.Member.{Member, run, IsLegal}
use Rattle.law_member.specs.Life.{statement_of, memory_of, remembered, AreSent, IsInOrder, IsStopped, floor_statement, IsBegun}
use Rattle.law_member.proofs.Facts.{one_more}
use Rattle.law_member.proofs.Living.{subjects_of}
use Rattle.law_member.proofs.Simulating.{Sim, Stores, nothing_first}
use Rattle.law_member.proofs.Publishing.{Storing, iteration_begins}
use Rattle.law_member.proofs.Replaying.{kept_is, AllPlain, all_replayed}
use Rattle.law_member.proofs.LifeStarting.{Voteless, Voteless-append, Voteless-take, plain_voteless, Takeless, Takeless-append, Takeless-take, plain_takeless, none_sent, none_taken, sent_nothing, sim_plains, tail_of}
use Rattle.law_member.proofs.Stopping.{Ready, made_whole, ended_at}

-- ---- the start of the first iteration

pub iteration_calls : (made : Made) (now : ℕ) (d : Doing) → (begin_iteration made now d).calls ≡ d.calls ++ tail_of (prune_answer made (iterated made now d.desk).known)
unfolding begin_iteration prune
iteration_calls made now d = at (prune_answer made (iterated made now d.desk).known)
  where
    at : (o : Option ℕ) → (prune_at o (tell made state.Prune (seek (record d { desk = iterated made now d.desk })))).calls ≡ d.calls ++ tail_of o
    at None = sym (append-nil d.calls)
    at (Some least) = refl

pub iteration_known : (made : Made) (now : ℕ) (d : Doing)
    → (begin_iteration made now d).desk.known ≡ facts_of made (iterated made now d.desk).known state.Prune ++ (iterated made now d.desk).known
unfolding begin_iteration prune
iteration_known made now d = at (prune_answer made (iterated made now d.desk).known)
  where
    at : (o : Option ℕ) → (prune_at o (tell made state.Prune (seek (record d { desk = iterated made now d.desk })))).desk.known
        ≡ facts_of made (iterated made now d.desk).known state.Prune ++ (iterated made now d.desk).known
    at None = refl
    at (Some least) = refl

pub tail_voteless : (o : Option ℕ) → Voteless (tail_of o)
tail_voteless None = tt
tail_voteless (Some least) = (tt, tt)

pub tail_takeless : (o : Option ℕ) → Takeless (tail_of o)
tail_takeless None = tt
tail_takeless (Some least) = (tt, tt)

-- ---- the member's start

abbrev pub first_of_start : Floor → List life.Call
first_of_start (floors.Genesis payload) = life.Start ∷ []
first_of_start (floors.Finalized f) = life.StartAt f.proposal (map (λ (a : Attestation). a.signer) f.certificate) ∷ []

-- behind it the member remembers what the voter knows from its journal
pub record Based (made : Made) (m : Member) (first : List life.Call) (floor : Floor) (facts : List Fact) : Type 0 where
  pub legal : IsLegal made.term_length m first
  pub sent : (run m first).sent ≡ m.sent
  pub brought : life.brought first ≡ floor_statement floor
  pub up : (run m first).up ≡ true
  pub memory : (run m first).known ≡ remembered facts
  pub outbox : (run m first).outbox ≡ []
  pub order : IsInOrder made facts

nothing_known : (made : Made) → IsInOrder made []
nothing_known made =
    record { judged = λ view good now c. absurd (omega (arith, c.1)); own = λ v c. absurd (omega (arith, c.1)) }

floor_known : (made : Made) (now : ℕ) (floor : Floor) → List Fact
floor_known made now floor = (stand_on made now floor (begun blank_desk)).desk.known

floor_memory : (made : Made) (now : ℕ) (f : Finalization) → remembered (floor_known made now (floors.Finalized f)) ≡ member.Proved (statement_of (certificates.Finalization f)) ∷ []
unfolding floor_known facts_of remembered
floor_memory made now f = refl

genesis_memory : (made : Made) (now : ℕ) (payload : List ℕ) → remembered (floor_known made now (floors.Genesis payload)) ≡ []
unfolding floor_known facts_of remembered
genesis_memory made now payload = refl

floor_order : (made : Made) (now : ℕ) (floor : Floor) → IsInOrder made (floor_known made now floor)
unfolding floor_known facts_of
floor_order made now (floors.Genesis payload) = one_more made [] (FloorAt 0 payload) tt (nothing_known made)
floor_order made now (floors.Finalized f) =
    one_more made (Added (certificates.Finalization f) now ∷ FloorAt (view_of f.proposal) f.proposal.payload ∷ []) _ tt
    (one_more made (FloorAt (view_of f.proposal) f.proposal.payload ∷ []) (Added (certificates.Finalization f) now) tt
    (one_more made [] (FloorAt (view_of f.proposal) f.proposal.payload) tt (nothing_known made)))

-- what is known once the journal was replayed
abbrev pub known_then : Made → ℕ → Floor → List Section → List Fact
known_then made now floor js = (replay_all made now (floor_view floor) (stand_on made now floor (begun blank_desk)) (replayed js)).desk.known

pub kept_then : (made : Made) (js : List Section) (m : Member) → IsStopped made js m → kept.kept m.journal ≡ map memory_of (replayed js)
kept_then made js m s = ap kept.kept s.journal ∙ kept_is js (ap kept.waiting (sym s.journal) ∙ s.stored)

pub based : (made : Made) (now : ℕ) (floor : Floor) (js : List Section) (m : Member) → IsStopped made js m → Based made m (first_of_start floor) floor (known_then made now floor js)
unfolding floor_known
based made now (floors.Genesis payload) js m s =
    let r = all_replayed made now 0 (stand_on made now (floors.Genesis payload) (begun blank_desk)) (replayed js) s.own in
    record {
      legal = (s.up, tt);
      sent = refl;
      brought = refl;
      up = refl;
      memory = ap (λ xs. member.replay [] (filter (λ a. nat_lt 0 (member.artifact_view a)) xs)) (kept_then made js m s)
          ∙ ap (λ xs. member.replay xs (filter (λ a. nat_lt 0 (member.artifact_view a)) (map memory_of (replayed js)))) (sym (genesis_memory made now payload))
          ∙ sym r.0;
      outbox = refl;
      order = r.1 (floor_order made now (floors.Genesis payload));
    }
based made now (floors.Finalized f) js m s =
    let view = view_of f.proposal in
    let r = all_replayed made now view (stand_on made now (floors.Finalized f) (begun blank_desk)) (replayed js) s.own in
    let proved = member.Proved (statement_of (certificates.Finalization f)) ∷ [] in
    record {
      legal = (s.up, tt);
      sent = refl;
      brought = refl;
      up = refl;
      memory = ap (λ xs. member.replay proved (filter (λ a. nat_lt view (member.artifact_view a)) xs)) (kept_then made js m s)
          ∙ ap (λ xs. member.replay xs (filter (λ a. nat_lt view (member.artifact_view a)) (map memory_of (replayed js)))) (sym (floor_memory made now f))
          ∙ sym r.0;
      outbox = refl;
      order = r.1 (floor_order made now (floors.Finalized f));
    }

-- ---- a start that appends nothing

begun_at : (made : Made) (m : Member) (first : List life.Call) (floor : Floor) (facts : List Fact) → Based made m first floor facts
    → kept.waiting (run m first).journal ≡ [] → Stores made (run m first) [] facts []
begun_at made m first floor facts b stored =
    record {
      sim = record { legal = tt; up = b.up; memory = b.memory; order = b.order; box = ap subjects_of b.outbox; fit = tt; sends = tt; first = nothing_first made (run m first) };
      stored = stored;
      kept = tt;
    }

-- the member where such a start was made whole, and where a stop ended it
pub quiet_whole : (made : Made) (m : Member) (first : List life.Call) (floor : Floor) (d : Doing) (js : List Section)
    → IsLegal made.term_length m first → life.brought first ≡ floor_statement floor → (run m first).sent ≡ m.sent → Ready made js (run m first)
    → Voteless d.calls → Takeless d.calls → Storing made (run m first) d [] → IsBegun made floor d.desk.known (whole d js) m
quiet_whole made m first floor d js legal brought quiet ready voteless takeless s =
    let x = made_whole made m first d.calls d.desk.known js legal quiet ready s in
    record {
      calls = x.calls;
      legal = x.legal;
      brought = inr (x.brought ∙ ap (λ xs. life.brought first ++ xs) (none_taken d.calls takeless) ∙ append-nil (life.brought first) ∙ brought);
      sends = sent_nothing m (run m x.calls) x.sent d.calls voteless x.votes x.sends;
      votes = none_sent d.calls voteless;
      left = x.left;
    }

-- all but where the member is then
pub record Cut (made : Made) (m : Member) (floor : Floor) (cs : List Call) (js : List Section) : Type 0 where
  pub calls : List life.Call
  pub legal : IsLegal made.term_length m calls
  pub brought : (life.brought calls ≡ []) ⊎ (life.brought calls ≡ floor_statement floor)
  pub sends : (run m calls).sent ≡ m.sent
  pub votes : AreSent cs []
  pub left : IsStopped made js (run m calls)

pub quiet_cut : (made : Made) (m : Member) (first : List life.Call) (floor : Floor) (stop : Stop) (keep : ℕ) (cs : List Call) (place : ℕ) (facts : List Fact) (js : List Section)
    → IsLegal made.term_length m first → life.brought first ≡ floor_statement floor → (run m first).sent ≡ m.sent → Ready made js (run m first)
    → Voteless cs → Takeless cs → Sim made (run m first) cs facts []
    → Cut made m floor (take place cs) (crashed keep (failing_at stop cs place (after_calls (take place cs) js)))
quiet_cut made m first floor stop keep cs place facts js legal brought quiet ready voteless takeless sim =
    let x = ended_at made m first stop keep cs place facts js legal quiet ready sim in
    let front = take place cs in
    record {
      calls = x.calls;
      legal = x.legal;
      brought = inr (x.brought ∙ ap (λ xs. life.brought first ++ xs) (none_taken front (Takeless-take place cs takeless)) ∙ append-nil (life.brought first) ∙ brought);
      sends = sent_nothing m (run m x.calls) x.sent front (Voteless-take place cs voteless) x.votes x.sends;
      votes = none_sent front (Voteless-take place cs voteless);
      left = x.left;
    }

broken_of : (made : Made) (m : Member) (floor : Floor) (stop : Stop) (d : Doing) (js : List Section) (place : ℕ) → stop_place stop d.calls ≡ Some place
    → ((keep : ℕ) → Cut made m floor (take place d.calls) (crashed keep (failing_at stop d.calls place (after_calls (take place d.calls) js))))
    → IsBegun made floor d.desk.known (broken stop d js place) m
unfolding stop_place
broken_of made m floor stops.None d js place e x = cc
broken_of made m floor (stops.Cut call keep) d js place e x =
    let c = x keep in record { calls = c.calls; legal = c.legal; brought = c.brought; sends = c.sends; votes = c.votes; left = c.left }
broken_of made m floor (stops.Fail call keep) d js place e x =
    let c = x keep in record { calls = c.calls; legal = c.legal; brought = c.brought; sends = c.sends; votes = c.votes; left = c.left }

pub performed_of : (made : Made) (m : Member) (floor : Floor) (stop : Stop) (d : Doing) (js : List Section)
    → IsBegun made floor d.desk.known (whole d js) m
    → ((keep place : ℕ) → Cut made m floor (take place d.calls) (crashed keep (failing_at stop d.calls place (after_calls (take place d.calls) js))))
    → IsBegun made floor d.desk.known (performed stop d js) m
unfolding performed
performed_of made m floor stop d js w c = at (stop_place stop d.calls) refl
  where
    at : (o : Option ℕ) → stop_place stop d.calls ≡ o → IsBegun made floor d.desk.known (option_map_or (broken stop d js) o (whole d js)) m
    at None e = w
    at (Some place) e = broken_of made m floor stop d js place e (λ keep. c keep place)

-- plain calls, and then the first iteration begins
pub quiet_start : (made : Made) (now : ℕ) (m : Member) (first : List life.Call) (floor : Floor) (stop : Stop) (d : Doing) (js : List Section)
    → IsStopped made js m → Based made m first floor d.desk.known → (run m first).journal ≡ m.journal → AllPlain d.calls
    → IsBegun made floor (begin_iteration made now d).desk.known (performed stop (begin_iteration made now d) js) m
quiet_start made now m first floor stop d js s b same plain =
    let base = run m first in
    let ready : Ready made js base = record { journal = same ∙ s.journal; rising = s.rising; own = s.own } in
    let begun = begun_at made m first floor d.desk.known b (ap kept.waiting same ∙ s.stored) in
    let all = begin_iteration made now d in
    let stores : Storing made base all [] = iteration_begins made base now d (sim_plains made base [] d.calls d.desk.known [] plain begun) in
    let o = prune_answer made (iterated made now d.desk).known in
    let voteless : Voteless all.calls = subst Voteless (sym (iteration_calls made now d)) (Voteless-append d.calls (tail_of o) (plain_voteless d.calls plain) (tail_voteless o)) in
    let takeless : Takeless all.calls = subst Takeless (sym (iteration_calls made now d)) (Takeless-append d.calls (tail_of o) (plain_takeless d.calls plain) (tail_takeless o)) in
    performed_of made m floor stop all js
    (quiet_whole made m first floor all js b.legal b.brought b.sent ready voteless takeless stores)
    (λ keep place. quiet_cut made m first floor stop keep all.calls place all.desk.known js b.legal b.brought b.sent ready voteless takeless stores.sim)
