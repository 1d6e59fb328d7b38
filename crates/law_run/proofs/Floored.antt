-- What is final to a voter that runs is at least its floor.
use Rattle.std.specs.List.{list_any}
use Rattle.std.proofs.Common.{◌≡◌, ℕ, ◌≤◌, ◌-◌, ◌++◌, nat_lt, max, cond, Bool, true, false, List, [], ◌∷◌, map, Contains, Option, Some, None, Ok, refl, sym, ap, ◌∙◌, subst, inl, inr, arith, if◌then◌else◌}
use Rattle.simplex_wire.specs.declared.artifact.Artifact.{Artifact}
use Rattle.simplex_types.specs.declared.floor.Floor.{Floor}
use Rattle.simplex_types.specs.declared.floor.Floor.TheVariants as floors
use Rattle.model_rules.specs.Known.{Made, Fact, Added, view_of}
use Rattle.model_rules.specs.Calls.{facts_of, replay_facts}
use Rattle.simplex_wire.specs.Fields.{artifact_round}
use Rattle.model_rules.specs.Calls as state
use Rattle.model_rules.specs.Pending.{Desk, iterated}
use Rattle.simplex_wire.specs.declared.artifact.Artifact.TheVariants as artifacts
use Rattle.simplex_messages.specs.declared.handed.Handed.TheVariants as handed
use Rattle.simplex_messages.specs.declared.resolver.MailboxMessage.TheVariants as resolver
use Rattle.model_rules.specs.Lists.{greatest_of}
use Rattle.model_rules.specs.Views.{finalized_view, last_finalized}
use Rattle.simplex_journal.specs.Journal.{Section, replayed}
use Rattle.simplex_messages.specs.declared.step.Stop.{Stop}
use Rattle.simplex_messages.specs.declared.step.Stop.TheVariants as stops
use Rattle.model_steps.specs.Desk.{Doing, begun, hand, append}
use Rattle.model_steps.specs.Performed.{performed}
use Rattle.model_steps.specs.Voter.{Standing, blank_desk, begin_iteration, floor_view, keep_floor, update_message, replay_all, replay_record, stand_on, started, stepped, is_final_from, sync}
use Rattle.model_steps.specs.VoterLife.{VoterMade, Given, Started, Stepped, Answered, place_of, rest, start_at, unread, unreadable, start_performed}
use Rattle.model_steps.specs.Engine as engine
use Rattle.model_steps.specs.Engine.{EngineMade, Did, Began, by_voter, given_to_voter, is_start, is_whole, runs, sections_of, started_at, voter_in, voter_past}
use Rattle.simplex_mailbox.specs.Mail.{received}
use Rattle.simplex_messages.specs.declared.batcher.Message.{Message}
use Rattle.simplex_messages.specs.declared.voter.Message as voter_message
use Rattle.simplex_wire.specs.declared.certificate.Finalization.{Finalization}
use Rattle.simplex_transcript.specs.declared.event.Event.{Event}
use Rattle.simplex_transcript.specs.declared.event.Event.TheVariants as events
use Rattle.simplex_transcript.specs.declared.event.StepSource.{StepSource}
use Rattle.simplex_transcript.specs.declared.event.StepSource.TheVariants as sources
use Rattle.simplex_transcript.specs.declared.node.Node.{Node}
use Rattle.simplex_transcript.specs.declared.setup.Setup.{Setup}
use Rattle.model_run.specs.Setting.{Setting}
use Rattle.model_run.specs.Life.{Noted, Stopped, Running, is_of, going_on, sections_in, after, clock_of, life_in}
use Rattle.model_run.specs.Members.{engine_of, floor_of, is_same_node}
use Rattle.model_run.specs.Entries.{entry_of}
use Rattle.law_run.specs.Faulty.{faulty_of}
use Rattle.law_run.specs.Histories.{IsRun}
use Rattle.law_run.proofs.Events.{answered_known, begun_gives, engine_at, given_start, idle_place, place_same, place_then, step_place}
use Rattle.law_run.proofs.Further.{life_still, life_then, same_node}
use Rattle.law_run.proofs.Letting.{heard_no_start}
use Rattle.law_run.proofs.Nodes.{fetcher_no_start, handler_no_start, resolver_no_start}
use Rattle.law_run.proofs.Turns.{IsTaken, entry_turn}
use Rattle.law_run.specs.Keeping.{IsAboveFloor}
use Rattle.simplex_messages.specs.declared.voter.VoterInput.{VoterInput}
use Rattle.law_agreement.specs.Artifacts as member
use Rattle.law_member.proofs.Beginning.{iteration_known}
use Rattle.law_member.proofs.Facts.{iterated_same}
use Rattle.law_member.proofs.Remembering.{final_is}
use Rattle.law_member.proofs.Replaying.{record_known}
use Rattle.law_member.specs.Learned.{is_addition, additions, added_at}
use Rattle.law_member.proofs.VoterStepping.{step_tells}

-- ---- more facts

greatest_more : (more known : List Fact) → greatest_of finalized_view known ≤ greatest_of finalized_view (more ++ known)
unfolding greatest_of
greatest_more [] known = omega arith
greatest_more (x ∷ more) known = omega (arith, greatest_more more known)

final_more : (more known : List Fact) → last_finalized known ≤ last_finalized (more ++ known)
unfolding last_finalized
final_more more known = greatest_more more known

not_final : (fact : Fact) → is_addition fact ≡ false → finalized_view fact ≡ 0
not_final (Added c now) e = cc
not_final _ e = refl

-- what is final is told by the certificates that were added
final_added : (known : List Fact) → greatest_of finalized_view (additions known) ≡ greatest_of finalized_view known
unfolding greatest_of
final_added [] = refl
final_added (fact ∷ known) = at (is_addition fact) refl (final_added known)
  where
    at : (b : Bool) → is_addition fact ≡ b → greatest_of finalized_view (additions known) ≡ greatest_of finalized_view known
        → greatest_of finalized_view (cond b (fact ∷ additions known) (additions known)) ≡ max (finalized_view fact) (greatest_of finalized_view known)
    at true e old = ap (max (finalized_view fact)) old
    at false e old = omega (arith, old, not_final fact e)

-- ---- a start

iteration_above : (made : Made) (now : ℕ) (d : Doing) → last_finalized d.desk.known ≤ last_finalized (begin_iteration made now d).desk.known
iteration_above made now d =
    let same = iterated_same made now d.desk in
    let later = (iterated made now d.desk).known in
    let kept : last_finalized d.desk.known ≡ last_finalized later = sym (final_is d.desk.known) ∙ ap member.last_finalized (sym same.memory) ∙ final_is later in
    subst (λ known. last_finalized d.desk.known ≤ last_finalized known) (sym (iteration_known made now d)) (omega (arith, kept, final_more (facts_of made later state.Prune) later))

replay_above : (made : Made) (now floor : ℕ) (d : Doing) (rs : List Artifact) → last_finalized d.desk.known ≤ last_finalized (replay_all made now floor d rs).desk.known
unfolding replay_all
replay_above made now floor d [] = omega arith
replay_above made now floor d (a ∷ rest) = at (nat_lt floor (artifact_round a).view) (replay_above made now floor (replay_record made now d a) rest) (replay_above made now floor d rest)
  where
    one : last_finalized d.desk.known ≤ last_finalized (replay_record made now d a).desk.known
    one = subst (λ known. last_finalized d.desk.known ≤ last_finalized known) (sym (record_known made now d a)) (final_more (replay_facts made d.desk.known a now) d.desk.known)

    at : (b : Bool) → last_finalized (replay_record made now d a).desk.known ≤ last_finalized (replay_all made now floor (replay_record made now d a) rest).desk.known
        → last_finalized d.desk.known ≤ last_finalized (replay_all made now floor d rest).desk.known
        → last_finalized d.desk.known ≤ last_finalized (replay_all made now floor (if b then replay_record made now d a else d) rest).desk.known
    at true taken left = omega (arith, one, taken)
    at false taken left = left

stand_above : (made : Made) (now : ℕ) (floor : Floor) → floor_view floor ≤ last_finalized (stand_on made now floor (begun blank_desk)).desk.known
unfolding facts_of last_finalized greatest_of
stand_above made now (floors.Genesis payload) = omega arith
stand_above made now (floors.Finalized f) = omega arith

keep_same : (floor : Floor) (rs : List Artifact) (d : Doing) → (keep_floor floor rs d).desk ≡ d.desk
keep_same (floors.Genesis payload) rs d = refl
keep_same (floors.Finalized f) rs d = at (list_any (is_final_from (view_of f.proposal)) rs)
  where
    at : (b : Bool) → (if b then d else sync (view_of f.proposal) (append (artifacts.Finalization f) d)).desk ≡ d.desk
    at true = refl
    at false = refl

pub started_above : (made : Made) (now : ℕ) (floor : Floor) (rs : List Artifact) → floor_view floor ≤ last_finalized (started made now floor rs).desk.known
unfolding started
started_above made now floor rs =
    let stood = stand_on made now floor (begun blank_desk) in
    let read = hand (handed.Resolver resolver.Replayed) (replay_all made now (floor_view floor) stood rs) in
    let kept = keep_floor floor rs read in
    let same = ap (λ (desk : Desk). last_finalized desk.known) (keep_same floor rs read) in
    omega (arith, stand_above made now floor, replay_above made now (floor_view floor) stood rs, same, iteration_above made now (hand (update_message made kept.desk.known None) kept))

-- ---- a step

pub step_above : (made : Made) (now : ℕ) (input : VoterInput) (s : Standing) (d : Doing) → stepped made now s input ≡ Some d → last_finalized s.desk.known ≤ last_finalized d.desk.known
unfolding last_finalized
step_above made now input s d e =
    let t = step_tells made now input s d e in
    let more = greatest_more (map (added_at now) d.added) (additions s.desk.known) in
    omega (arith, more, ap (greatest_of finalized_view) t.new, final_added d.desk.known, final_added s.desk.known)

-- ---- a start whose reading fails does not run

pub unread_ends : (stop : Stop) (floor : Floor) (d : Doing) (js : List Section) → unreadable stop ≡ true → is_whole (start_performed stop floor d js).outcome ≡ false
unfolding start_performed
unread_ends stops.None floor d js e = cc
unread_ends (stops.Cut call keep) floor d js e = cc
unread_ends (stops.Fail call keep) floor d js e = ap (λ b. is_whole (if b then unread floor d keep js else performed (stops.Fail (call - 1) keep) d js).outcome) e

-- ---- a voter between two events

abbrev IsAbove : VoterMade → List Given → Type 0
IsAbove v past = floor_view v.floor ≤ last_finalized (place_of v past).standing.desk.known

one_more : (v : VoterMade) (past : List Given) (given : Given) → IsAbove v past → IsAbove v (given ∷ past)
unfolding place_of
one_more v past (Started now stop) h = at (unreadable stop)
  where
    at : (b : Bool) → floor_view v.floor ≤ last_finalized (if b then (place_of v past).standing else rest (start_at v now (place_of v past).sections) []).desk.known
    at true = h
    at false = started_above v.rules now v.floor (replayed (place_of v past).sections)
one_more v past (Stepped input now stop) h = at (stepped v.rules now (place_of v past).standing input) refl
  where
    at : (o : Option Doing) → stepped v.rules now (place_of v past).standing input ≡ o → IsAbove v (Stepped input now stop ∷ past)
    at None e = subst (λ place. floor_view v.floor ≤ last_finalized place.standing.desk.known) (sym (idle_place v past input now stop e)) h
    at (Some d) e =
        let more = step_above v.rules now input (place_of v past).standing d e in
        subst (λ place. floor_view v.floor ≤ last_finalized place.standing.desk.known) (sym (step_place v past input now stop d e)) (omega (arith, h, more))
one_more v past (Answered number answer) h = subst (λ known. floor_view v.floor ≤ last_finalized known) (sym (answered_known number answer (place_of v past).standing)) h

first_start : (v : VoterMade) (now : ℕ) (stop : Stop) → unreadable stop ≡ false → IsAbove v (Started now stop ∷ [])
unfolding place_of
first_start v now stop e =
    subst (λ b. floor_view v.floor ≤ last_finalized (if b then (place_of v []).standing else rest (start_at v now v.sections) []).desk.known) (sym e) (started_above v.rules now v.floor (replayed v.sections))

-- ---- an engine goes on

goes_above : (made : EngineMade) (did : Did) (past : List Did) → is_start did.taken ≡ false → IsAbove (voter_in made past) (voter_past past) → IsAbove (voter_in made (did ∷ past)) (voter_past (did ∷ past))
goes_above made did past f h = at (given_to_voter did) refl
  where
    moved : (given : List Given) → voter_in made (did ∷ past) ≡ voter_in made past → voter_past (did ∷ past) ≡ given → IsAbove (voter_in made past) given → IsAbove (voter_in made (did ∷ past)) (voter_past (did ∷ past))
    moved given p q x = subst (λ v. IsAbove v (voter_past (did ∷ past))) (sym p) (subst (IsAbove (voter_in made past)) (sym q) x)

    at : (o : Option Given) → given_to_voter did ≡ o → IsAbove (voter_in made (did ∷ past)) (voter_past (did ∷ past))
    at None e = let p = place_same made did past e f in moved (voter_past past) p.0 p.1 h
    at (Some given) e = let p = place_then made did past given e f in moved (given ∷ voter_past past) p.0 p.1 (one_more (voter_in made past) (voter_past past) given h)

stepped_no_start : (made : EngineMade) (past : List Did) (source : StepSource) (now : ℕ) (stop : Stop) → is_start (engine.stepped made past source now stop).taken ≡ false
unfolding engine.stepped engine.by_batcher
stepped_no_start made past sources.Batcher now stop = at (received (engine.batcher_mail made past))
  where
    at : (o : Option Message) → is_start (engine.on_batcher_mail made past now stop o).taken ≡ false
    at None = refl
    at (Some message) = refl
stepped_no_start made past sources.Voter now stop = at (received (engine.voter_mail made past))
  where
    at : (o : Option voter_message.Message) → is_start (engine.on_voter_mail made past now stop o).taken ≡ false
    at None = refl
    at (Some message) = refl
stepped_no_start made past sources.Timer now stop = refl
stepped_no_start made past sources.Propose now stop = refl
stepped_no_start made past sources.Verify now stop = refl
stepped_no_start made past sources.Certify now stop = refl
stepped_no_start made past sources.Resolver now stop = resolver_no_start made past now stop
stepped_no_start made past sources.Handler now stop = handler_no_start made past now stop
stepped_no_start made past sources.Fetch now stop = fetcher_no_start made past now stop

taken_no_start : (setup : Setup) (before : List Noted) (at : Node) (made : EngineMade) (past : List Did) (did : Did) → IsTaken setup before at made past did → is_start did.taken ≡ false
taken_no_start setup before at made past did t = elim t [
  | inl p ↦ subst (λ (d : Did). is_start d.taken ≡ false) (sym p.is) (heard_no_start made past p.packet.from.member p.packet.channel p.packet.bytes (clock_of before))
  | inr other ↦ elim other [
    | inl s ↦ subst (λ (d : Did). is_start d.taken ≡ false) (sym s.is) (stepped_no_start made past s.source (clock_of before) s.stop)
    | inr r ↦ subst (λ (d : Did). is_start d.taken ≡ false) (sym r.is) refl
  ]
]

life_above : (made : EngineMade) (past : List Did) → (runs past ≡ true → IsAbove (voter_in made past) (voter_past past)) → IsAboveFloor (going_on made past)
life_above made past f = at (runs past) refl
  where
    at : (b : Bool) → runs past ≡ b → IsAboveFloor (if b then Running made past else Stopped (sections_of made past))
    at true e = f e
    at false e = tt

-- ---- a new engine

begun_above : (setting : Setting) (node : Node) (floor : Option Finalization) (js : List Section) (now : ℕ) (stop : Stop) → IsAboveFloor (going_on (engine_at setting node floor js) (engine.begun (engine_at setting node floor js) now stop ∷ []))
unfolding runs started_at voter_past engine_of
begun_above setting node floor js now stop =
    let made = engine_at setting node floor js in
    let v = made.voter now in
    let did = by_voter Began now stop (given_start setting node floor js now stop) in
    subst (λ (d : Did). IsAboveFloor (going_on made (d ∷ []))) (sym (begun_gives setting node floor js now stop))
    (life_above made (did ∷ []) (λ r. at (unreadable stop) refl r))
  where
    never : true ≡ false → ⊥
    never h = cc

    at : (b : Bool) → unreadable stop ≡ b → is_whole (given_start setting node floor js now stop).outcome ≡ true → IsAbove ((engine_at setting node floor js).voter now) (Started now stop ∷ [])
    at true e r = absurd (never (sym r ∙ unread_ends stop (floor_of setting.genesis floor) _ js e))
    at false e r = first_start ((engine_at setting node floor js).voter now) now stop e

-- ---- every run

then_at : (setting : Setting) (noted : Noted) (before : List Noted) (at node : Node) → is_of node noted.event ≡ is_same_node at node → IsAboveFloor (life_in setting before node)
    → (at ≡ node → IsAboveFloor (after setting noted.event noted.did (life_in setting before node))) → IsAboveFloor (life_in setting (noted ∷ before) node)
then_at setting noted before at node of old f = cases (is_same_node at node) refl
  where
    cases : (t : Bool) → is_same_node at node ≡ t → IsAboveFloor (life_in setting (noted ∷ before) node)
    cases true e = subst IsAboveFloor (sym (life_then setting noted before node (of ∙ e))) (f (same_node at node e))
    cases false e = subst IsAboveFloor (sym (life_still setting noted before node (of ∙ e))) old

still : (setting : Setting) (noted : Noted) (before : List Noted) (node : Node) → is_of node noted.event ≡ false → IsAboveFloor (life_in setting before node) → IsAboveFloor (life_in setting (noted ∷ before) node)
still setting noted before node e old = subst IsAboveFloor (sym (life_still setting noted before node e)) old

turn_above : (setting : Setting) (before : List Noted) (event : Event) (noted : Noted) (node : Node) → ¬ (Contains (faulty_of setting.setup) node.member) → entry_of setting before event ≡ Ok noted → IsAboveFloor (life_in setting before node)
    → IsAboveFloor (life_in setting (noted ∷ before) node)
unfolding after
turn_above setting before event noted node honest e old = elim (entry_turn setting before event noted e) [
  | inl b ↦ subst (λ n. IsAboveFloor (life_in setting (n ∷ before) node)) b.is
      (then_at setting _ before b.at node refl old
      (λ same. subst (λ (n : Node). IsAboveFloor (after setting (events.Start b.at b.floor b.stop) (Some (engine.begun (engine_of setting b.at.member (floor_of setting.genesis b.floor) b.sections) (clock_of before) b.stop)) (life_in setting before n))) same
      (subst (λ l. IsAboveFloor (going_on (engine_of setting b.at.member (floor_of setting.genesis b.floor) (sections_in l)) (engine.begun (engine_of setting b.at.member (floor_of setting.genesis b.floor) b.sections) (clock_of before) b.stop ∷ []))) (sym b.stopped)
      (begun_above setting b.at b.floor b.sections (clock_of before) b.stop))))
  | inr other ↦ elim other [
    | inl g ↦ subst (λ n. IsAboveFloor (life_in setting (n ∷ before) node)) g.is
        (then_at setting _ before g.at node (g.of node) old
        (λ same. subst (λ (n : Node). IsAboveFloor (life_in setting before n) → IsAboveFloor (after setting event (Some g.did) (life_in setting before n))) same
        (λ h. subst (λ l. IsAboveFloor (after setting event (Some g.did) l)) (sym g.running) (subst IsAboveFloor (sym g.goes)
        (life_above g.made (g.did ∷ g.past) (λ r. goes_above g.made g.did g.past (taken_no_start setting.setup before g.at g.made g.past g.did g.taken) (subst IsAboveFloor g.running h))))) old))
    | inr rest ↦ elim rest [
      | inl c ↦ subst (λ n. IsAboveFloor (life_in setting (n ∷ before) node)) c.is (then_at setting _ before c.at node refl old (λ same. tt))
      | inr last ↦ elim last [
        | inl t ↦ subst (λ n. IsAboveFloor (life_in setting (n ∷ before) node)) t.is (still setting _ before node refl old)
        | inr a ↦ still setting noted before node (a.honest node honest) old
      ]
    ]
  ]
]

pub run_above : (setting : Setting) (noted : List Noted) (node : Node) → ¬ (Contains (faulty_of setting.setup) node.member) → IsRun setting noted → IsAboveFloor (life_in setting noted node)
unfolding IsRun life_in
run_above setting [] node honest ran = tt
run_above setting (noted ∷ before) node honest ran = turn_above setting before ran.0 noted node honest ran.1 (run_above setting before node honest ran.2)
