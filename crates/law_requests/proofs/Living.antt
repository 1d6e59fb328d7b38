-- What is kept by each step, each answer and each start of a voter holds wherever a voter stands in a run.
use Rattle.std.proofs.Common.{◌≡◌, ℕ, ◌-◌, ◌==◌, ◌++◌, Bool, true, false, List, [], ◌∷◌, Option, Some, None, refl, sym, ap, subst, ◌∙◌, inl, inr, append-nil, if◌then◌else◌}
use Rattle.std.specs.Option.{option_map_or}
use Rattle.simplex_values.specs.declared.answer.Answer.{Answer}
use Rattle.simplex_wire.specs.declared.certificate.Finalization.{Finalization}
use Rattle.simplex_wire.specs.declared.artifact.Artifact.{Artifact}
use Rattle.simplex_types.specs.declared.floor.Floor.{Floor}
use Rattle.model_rules.specs.declared.request.Asked.{Asked}
use Rattle.model_rules.specs.Known.{Made}
use Rattle.simplex_journal.specs.Journal.{Section, replayed}
use Rattle.simplex_messages.specs.declared.step.Stop.{Stop}
use Rattle.simplex_messages.specs.declared.step.Stop.TheVariants as stops
use Rattle.simplex_messages.specs.declared.step.StepOut.{StepOut}
use Rattle.simplex_messages.specs.declared.voter.VoterInput.{VoterInput}
use Rattle.simplex_transcript.specs.declared.entry.Took.{Took}
use Rattle.simplex_transcript.specs.declared.entry.Took.TheVariants as tooks
use Rattle.simplex_transcript.specs.declared.event.Event.{Event}
use Rattle.simplex_transcript.specs.declared.event.Event.TheVariants as events
use Rattle.simplex_transcript.specs.declared.event.StepSource.{StepSource}
use Rattle.simplex_transcript.specs.declared.node.Node.{Node}
use Rattle.model_steps.specs.Desk.{Doing}
use Rattle.model_steps.specs.Performed.{Performed, stop_place, stop_outcome, whole, broken, performed}
use Rattle.model_steps.specs.Voter as voter
use Rattle.model_steps.specs.Voter.{Standing, takes_answer, answered}
use Rattle.model_steps.specs.VoterLife.{VoterMade, Place, Started, Stepped, Answered, place_of, start_at, rest, unread, start_performed}
use Rattle.model_steps.specs.Engine as engine
use Rattle.model_steps.specs.Engine.{EngineMade, Did, Began, started_at, voter_in, voter_past, by_voter, runs, sections_of, is_whole}
use Rattle.model_run.specs.Setting.{Setting}
use Rattle.model_run.specs.Kinds.{runs_engine}
use Rattle.model_run.specs.Life.{Noted, Life, Stopped, Running, clock_of, is_of, going_on, sections_in, after, life_in}
use Rattle.model_run.specs.Members.{floor_of, engine_of}
use Rattle.model_run.specs.Requests.{is_start}
use Rattle.model_run.specs.Entries.{noted_with, noted_blank, took_of}
use Rattle.law_run.specs.Histories.{IsRun}
use Rattle.law_run.proofs.Events.{place_in, engine_at, given_start, begun_gives, step_gives, place_same, place_then, step_place, idle_place}
use Rattle.law_run.proofs.Further.{same_self, life_then, life_still}
use Rattle.law_run.specs.Asked.{asked_of}
use Rattle.law_requests.specs.Since.{dropped_of, answer_in, answers_of}
use Rattle.law_requests.specs.Steps.{IsQuiet, IsVoters}
use Rattle.law_requests.specs.Turns.{HasStarted, HasHeard, HasStepped, WasAnswered, HasCrashed, IsTurnOf}
use Rattle.law_requests.proofs.Steps.{any_step, heard_quiet}
use Rattle.law_requests.proofs.Turning.{entry_turns}

-- such a property is of the rules, of what was asked, dropped and answered since the start, and of where the voter stands
pub record IsKept (Q : Made → List Asked → List ℕ → List (ℕ × Answer) → Standing → Type 0) : Type 0 where
  pub steps : (made : Made) (asked : List Asked) (dropped : List ℕ) (given : List (ℕ × Answer)) (now : ℕ) (s : Standing) (input : VoterInput) (d : Doing) → Q made asked dropped given s → voter.stepped made now s input ≡ Some d
      → Q made (asked ++ d.desk.asked) (dropped ++ d.desk.dropped) given (rest d s.answers)
  pub replies : (made : Made) (asked : List Asked) (dropped : List ℕ) (given : List (ℕ × Answer)) (s : Standing) (number : ℕ) (answer : Answer) → Q made asked dropped given s → takes_answer s number answer ≡ true
      → Q made asked dropped (given ++ (number, answer) ∷ []) (answered number answer s)
  pub starts : (made : Made) (now : ℕ) (floor : Floor) (records : List Artifact) → (let d = voter.started made now floor records in Q made d.desk.asked d.desk.dropped [] (rest d []))

-- a step that is whole asked and dropped what it would have
abbrev IsAll : Doing → Performed → Type 0
IsAll d p = is_whole p.outcome ≡ true → (p.out.asked ≡ d.desk.asked) × (p.out.dropped ≡ d.desk.dropped)

module _ (d : Doing) (js : List Section) where
  all_at : (stop : Stop) (o : Option ℕ) → is_whole (stop_outcome stop) ≡ false → IsAll d (option_map_or (broken stop d js) o (whole d js))
  all_at stop None e t = (refl, refl)
  all_at stop (Some place) e t = absurd (never (sym e ∙ t))
    where
      never : false ≡ true → ⊥
      never e = cc

  pub performed_all : (stop : Stop) → IsAll d (performed stop d js)
  unfolding performed stop_place
  performed_all stops.None t = (refl, refl)
  performed_all (stops.Cut call keep) t = all_at (stops.Cut call keep) (stop_place (stops.Cut call keep) d.calls) refl t
  performed_all (stops.Fail call keep) t = all_at (stops.Fail call keep) (stop_place (stops.Fail call keep) d.calls) refl t

  pub start_all : (stop : Stop) (floor : Floor) → IsAll d (start_performed stop floor d js)
  unfolding start_performed
  start_all stops.None floor t = performed_all stops.None t
  start_all (stops.Cut call keep) floor t = performed_all (stops.Cut call keep) t
  start_all (stops.Fail call keep) floor t = at (call == 1) t
    where
      at : (b : Bool) → IsAll d (if b then unread floor d keep js else performed (stops.Fail (call - 1) keep) d js)
      at true t = cc
      at false t = performed_all (stops.Fail (call - 1) keep) t

module _ (Q : Made → List Asked → List ℕ → List (ℕ × Answer) → Standing → Type 0) (kept : IsKept Q) where
  abbrev pub Stands : List Asked → List ℕ → List (ℕ × Answer) → EngineMade → List Did → Type 0
  Stands asked dropped given made past = Q (voter_in made past).rules asked dropped given (place_in made past).standing

  -- ---- one turn

  module _ (asked : List Asked) (dropped : List ℕ) (given : List (ℕ × Answer)) (made : EngineMade) (past : List Did) (h : Stands asked dropped given made past) where
    abbrev IsThen : Did → Type 0
    IsThen did = runs (did ∷ past) ≡ true → Stands (asked ++ did.out.asked) (dropped ++ did.out.dropped) given made (did ∷ past)

    at_place : (a : List Asked) (g : List ℕ) (k : List (ℕ × Answer)) (did : Did) (q : Place) → voter_in made (did ∷ past) ≡ voter_in made past → place_in made (did ∷ past) ≡ q → Q (voter_in made past).rules a g k q.standing → Stands a g k made (did ∷ past)
    at_place a g k did q e f n =
        subst (λ (v : VoterMade). Q v.rules a g k (place_in made (did ∷ past)).standing) (sym e) (subst (λ (x : Place). Q (voter_in made past).rules a g k x.standing) (sym f) n)

    -- nothing more was asked or dropped
    nothing_more : (xs : List Asked) (ys : List ℕ) → xs ≡ [] → ys ≡ [] → Q (voter_in made past).rules (asked ++ xs) (dropped ++ ys) given (place_in made past).standing
    nothing_more xs ys e f =
        subst (λ zs. Q (voter_in made past).rules zs (dropped ++ ys) given (place_in made past).standing) (sym (ap (λ zs. asked ++ zs) e ∙ append-nil asked))
        (subst (λ zs. Q (voter_in made past).rules asked zs given (place_in made past).standing) (sym (ap (λ zs. dropped ++ zs) f ∙ append-nil dropped)) h)

    quiet_then : (did : Did) → IsQuiet did → IsThen did
    quiet_then did q r =
        let p = place_same made did past q.given q.start in
        at_place (asked ++ did.out.asked) (dropped ++ did.out.dropped) given did (place_in made past) p.0 (ap (λ (v : VoterMade). place_of v (voter_past (did ∷ past))) p.0 ∙ ap (place_of (voter_in made past)) p.1)
        (nothing_more did.out.asked did.out.dropped q.asked q.dropped)

    voters_then : (source : StepSource) (now : ℕ) (stop : Stop) (did : Did) → IsVoters made past source now stop did → IsThen did
    unfolding runs
    voters_then source now stop did v r = at (voter.stepped (voter_in made past).rules now (place_in made past).standing v.input) refl
      where
        p : (voter_in made (did ∷ past) ≡ voter_in made past) × (voter_past (did ∷ past) ≡ Stepped v.input now stop ∷ voter_past past)
        p = place_then made did past (Stepped v.input now stop) v.given v.start

        there : (q : Place) → place_of (voter_in made past) (Stepped v.input now stop ∷ voter_past past) ≡ q → place_in made (did ∷ past) ≡ q
        there q same = ap (λ (w : VoterMade). place_of w (voter_past (did ∷ past))) p.0 ∙ ap (place_of (voter_in made past)) p.1 ∙ same

        at : (o : Option Doing) → voter.stepped (voter_in made past).rules now (place_in made past).standing v.input ≡ o → Stands (asked ++ did.out.asked) (dropped ++ did.out.dropped) given made (did ∷ past)
        at None g =
            let gives = v.out ∙ ap (λ (x : Performed). x.out) (step_gives (voter_in made past) (voter_past past) v.input now stop None g) in
            at_place (asked ++ did.out.asked) (dropped ++ did.out.dropped) given did (place_in made past) p.0 (there (place_in made past) (idle_place (voter_in made past) (voter_past past) v.input now stop g))
            (nothing_more did.out.asked did.out.dropped (ap (λ (x : StepOut). x.asked) gives) (ap (λ (x : StepOut). x.dropped) gives))
        at (Some d) g =
            let js = (place_in made past).sections in
            let same = step_gives (voter_in made past) (voter_past past) v.input now stop (Some d) g in
            let gives = v.out ∙ ap (λ (x : Performed). x.out) same in
            let ends = v.outcome ∙ ap (λ (x : Performed). x.outcome) same in
            let all = performed_all d js stop (ap is_whole (sym ends) ∙ r) in
            let later : Place = record { standing = rest d (place_in made past).standing.answers; sections = (performed stop d js).sections } in
            at_place (asked ++ did.out.asked) (dropped ++ did.out.dropped) given did later p.0 (there later (step_place (voter_in made past) (voter_past past) v.input now stop d g))
            (subst (λ (xs : List Asked). Q (voter_in made past).rules (asked ++ xs) (dropped ++ did.out.dropped) given (rest d (place_in made past).standing.answers)) (sym (ap (λ (x : StepOut). x.asked) gives ∙ all.0))
            (subst (λ (xs : List ℕ). Q (voter_in made past).rules (asked ++ d.desk.asked) (dropped ++ xs) given (rest d (place_in made past).standing.answers)) (sym (ap (λ (x : StepOut). x.dropped) gives ∙ all.1))
            (kept.steps (voter_in made past).rules asked dropped given now (place_in made past).standing v.input d h g)))

    stepped_then : (source : StepSource) (now : ℕ) (stop : Stop) → IsThen (engine.stepped made past source now stop)
    stepped_then source now stop r = elim (any_step made past source now stop) [
      | inl q ↦ quiet_then (engine.stepped made past source now stop) q r
      | inr v ↦ voters_then source now stop (engine.stepped made past source now stop) v r
    ]

    answered_then : (number : ℕ) (answer : Answer) (now : ℕ) → engine.takes_reply made past number answer ≡ true
        → Stands (asked ++ []) (dropped ++ []) (given ++ (number, answer) ∷ []) made (engine.replied number answer now ∷ past)
    unfolding place_of engine.takes_reply
    answered_then number answer now t =
        let did = engine.replied number answer now in
        let p = place_then made did past (Answered number answer) refl refl in
        let s = (place_in made past).standing in
        let later : Place = record { standing = answered number answer s; sections = (place_in made past).sections } in
        at_place (asked ++ []) (dropped ++ []) (given ++ (number, answer) ∷ []) did later p.0 (ap (λ (v : VoterMade). place_of v (voter_past (did ∷ past))) p.0 ∙ ap (place_of (voter_in made past)) p.1)
        (kept.replies (voter_in made past).rules (asked ++ []) (dropped ++ []) given s number answer (nothing_more [] [] refl refl) t)

  -- ---- a start

  start_stands : (made : VoterMade) (now : ℕ) (stop : Stop) → is_whole (start_performed stop made.floor (start_at made now made.sections) made.sections).outcome ≡ true
      → (let d = start_at made now made.sections in Q made.rules d.desk.asked d.desk.dropped [] (place_of made (Started now stop ∷ [])).standing)
  unfolding place_of start_performed
  start_stands made now stops.None t = kept.starts made.rules now made.floor (replayed made.sections)
  start_stands made now (stops.Cut call keep) t = kept.starts made.rules now made.floor (replayed made.sections)
  start_stands made now (stops.Fail call keep) t = at (call == 1) t
    where
      at : (b : Bool) → is_whole (if b then unread made.floor (start_at made now made.sections) keep made.sections else performed (stops.Fail (call - 1) keep) (start_at made now made.sections) made.sections).outcome ≡ true
          → (let d = start_at made now made.sections in Q made.rules d.desk.asked d.desk.dropped [] (if b then (place_of made []).standing else rest d []))
      at true t = cc
      at false t = kept.starts made.rules now made.floor (replayed made.sections)

  module _ (setting : Setting) (node : Node) where
    begun_stands : (floor : Option Finalization) (stop : Stop) (js : List Section) (now : ℕ)
        → (let did = by_voter Began now stop (given_start setting node floor js now stop) in runs (did ∷ []) ≡ true → Stands did.out.asked did.out.dropped [] (engine_at setting node floor js) (did ∷ []))
    unfolding started_at voter_past engine_of runs
    begun_stands floor stop js now r =
        let made = (engine_at setting node floor js).voter now in
        let d = start_at made now js in
        let did = by_voter Began now stop (given_start setting node floor js now stop) in
        let all = start_all d js stop (floor_of setting.genesis floor) r in
        let s = (place_of made (Started now stop ∷ [])).standing in
        subst (λ (xs : List Asked). Q made.rules xs did.out.dropped [] s) (sym all.0)
        (subst (λ (xs : List ℕ). Q made.rules d.desk.asked xs [] s) (sym all.1) (start_stands made now stop r))

    -- ---- the life of one node

    abbrev pub IsLife : List Asked → List ℕ → List (ℕ × Answer) → Life → Type 0
    IsLife asked dropped given (Stopped sections) = Unit {0}
    IsLife asked dropped given (Running made past) = Stands asked dropped given made past

    life_on : (asked : List Asked) (dropped : List ℕ) (given : List (ℕ × Answer)) (made : EngineMade) (past : List Did) → (runs past ≡ true → Stands asked dropped given made past) → IsLife asked dropped given (going_on made past)
    life_on asked dropped given made past r = at (runs past) refl
      where
        at : (b : Bool) → runs past ≡ b → IsLife asked dropped given (if b then Running made past else Stopped (sections_of made past))
        at true e = r e
        at false e = tt

    abbrev IsNodesLife : List Noted → Type 0
    IsNodesLife noted = IsLife (asked_of noted node) (dropped_of noted node) (answers_of noted node) (life_in setting noted node)

    module _ (before : List Noted) (old : IsNodesLife before) where
      still : (noted : Noted) → is_of node noted.event ≡ false → IsNodesLife (noted ∷ before)
      unfolding asked_of dropped_of answers_of
      still noted e =
          subst (IsLife (asked_of (noted ∷ before) node) (dropped_of (noted ∷ before) node) (answers_of (noted ∷ before) node)) (sym (life_still setting noted before node e))
          (subst (λ b. IsLife (if b then (if is_start noted.event then noted.entry.asked else asked_of before node ++ noted.entry.asked) else asked_of before node)
          (if b then (if is_start noted.event then noted.entry.dropped else dropped_of before node ++ noted.entry.dropped) else dropped_of before node)
          (if b then (if is_start noted.event then [] else answers_of before node ++ answer_in before node noted.event) else answers_of before node) (life_in setting before node)) (sym e) old)

      goes : (noted : Noted) (s : Bool) → is_of node noted.event ≡ true → is_start noted.event ≡ s
          → IsLife (if s then noted.entry.asked else asked_of before node ++ noted.entry.asked) (if s then noted.entry.dropped else dropped_of before node ++ noted.entry.dropped)
          (if s then [] else answers_of before node ++ answer_in before node noted.event) (after setting noted.event noted.did (life_in setting before node)) → IsNodesLife (noted ∷ before)
      unfolding asked_of dropped_of answers_of
      goes noted s e f l =
          subst (IsLife (asked_of (noted ∷ before) node) (dropped_of (noted ∷ before) node) (answers_of (noted ∷ before) node)) (sym (life_then setting noted before node e))
          (subst (λ b. IsLife (if b then (if is_start noted.event then noted.entry.asked else asked_of before node ++ noted.entry.asked) else asked_of before node)
          (if b then (if is_start noted.event then noted.entry.dropped else dropped_of before node ++ noted.entry.dropped) else dropped_of before node)
          (if b then (if is_start noted.event then [] else answers_of before node ++ answer_in before node noted.event) else answers_of before node) (after setting noted.event noted.did (life_in setting before node))) (sym e)
          (subst (λ b. IsLife (if b then noted.entry.asked else asked_of before node ++ noted.entry.asked) (if b then noted.entry.dropped else dropped_of before node ++ noted.entry.dropped)
          (if b then [] else answers_of before node ++ answer_in before node noted.event) (after setting noted.event noted.did (life_in setting before node))) (sym f) l))

      -- one more turn of the running engine
      turns : (made : EngineMade) (past : List Did) (event : Event) (took : Option Took) (did : Did) (more : List (ℕ × Answer)) → life_in setting before node ≡ Running made past → is_of node event ≡ true → is_start event ≡ false
          → answer_in before node event ≡ more → after setting event (Some did) (Running made past) ≡ going_on made (did ∷ past)
          → (Stands (asked_of before node) (dropped_of before node) (answers_of before node) made past → runs (did ∷ past) ≡ true
          → Stands (asked_of before node ++ did.out.asked) (dropped_of before node ++ did.out.dropped) (answers_of before node ++ more) made (did ∷ past))
          → IsNodesLife (noted_with setting.setup before event node took did ∷ before)
      turns made past event took did more running of start gave on turn =
          let a = asked_of before node ++ did.out.asked in
          let g = dropped_of before node ++ did.out.dropped in
          let k = answers_of before node ++ more in
          let ready : Stands (asked_of before node) (dropped_of before node) (answers_of before node) made past = subst (IsLife (asked_of before node) (dropped_of before node) (answers_of before node)) running old in
          goes (noted_with setting.setup before event node took did) false of start
          (subst (λ (xs : List (ℕ × Answer)). IsLife a g (answers_of before node ++ xs) (after setting event (Some did) (life_in setting before node))) (sym gave)
          (subst (λ (l : Life). IsLife a g k (after setting event (Some did) l)) (sym running)
          (subst (IsLife a g k) (sym on) (life_on a g k made (did ∷ past) (turn ready)))))

      -- where no answer comes
      no_answer : (made : EngineMade) (past : List Did) (did : Did) → (Stands (asked_of before node) (dropped_of before node) (answers_of before node) made past → runs (did ∷ past) ≡ true
          → Stands (asked_of before node ++ did.out.asked) (dropped_of before node ++ did.out.dropped) (answers_of before node) made (did ∷ past))
          → Stands (asked_of before node) (dropped_of before node) (answers_of before node) made past → runs (did ∷ past) ≡ true
          → Stands (asked_of before node ++ did.out.asked) (dropped_of before node ++ did.out.dropped) (answers_of before node ++ []) made (did ∷ past)
      no_answer made past did turn h r =
          subst (λ (xs : List (ℕ × Answer)). Stands (asked_of before node ++ did.out.asked) (dropped_of before node ++ did.out.dropped) xs made (did ∷ past)) (sym (append-nil (answers_of before node))) (turn h r)

      started : (noted : Noted) → HasStarted setting before node noted → IsNodesLife (noted ∷ before)
      unfolding after
      started noted b =
          let now = clock_of before in
          let made = engine_at setting node b.floor b.sections in
          let did = engine.begun made now b.stop in
          let same : did ≡ by_voter Began now b.stop (given_start setting node b.floor b.sections now b.stop) = begun_gives setting node b.floor b.sections now b.stop in
          let t : runs (did ∷ []) ≡ true → Stands did.out.asked did.out.dropped [] made (did ∷ []) =
          subst (λ (x : Did). runs (x ∷ []) ≡ true → Stands x.out.asked x.out.dropped [] made (x ∷ [])) (sym same) (begun_stands b.floor b.stop b.sections now) in
          subst (λ (n : Noted). IsNodesLife (n ∷ before)) b.is
          (goes (noted_with setting.setup before (events.Start node b.floor b.stop) node (Some tooks.Floor) did) true (same_self node) refl
          (subst (λ (l : Life). IsLife did.out.asked did.out.dropped [] (going_on (engine_of setting node.member (floor_of setting.genesis b.floor) (sections_in l)) (did ∷ []))) (sym b.stopped)
          (life_on did.out.asked did.out.dropped [] made (did ∷ []) t)))

      heard : (noted : Noted) → HasHeard setting before node noted → IsNodesLife (noted ∷ before)
      unfolding after
      heard noted b =
          let did = engine.heard b.made b.past b.packet.from.member b.packet.channel b.packet.bytes (clock_of before) in
          subst (λ (n : Noted). IsNodesLife (n ∷ before)) b.is
          (turns b.made b.past (events.Deliver node b.ref) (Some (tooks.Packet b.ref)) did [] b.running (same_self node) refl refl refl
          (no_answer b.made b.past did (λ h. quiet_then (asked_of before node) (dropped_of before node) (answers_of before node) b.made b.past h did (heard_quiet b.made b.past b.packet.from.member b.packet.channel b.packet.bytes (clock_of before)))))

      stepped : (noted : Noted) → HasStepped setting before node noted → IsNodesLife (noted ∷ before)
      unfolding after
      stepped noted b =
          let did = engine.stepped b.made b.past b.source (clock_of before) b.stop in
          subst (λ (n : Noted). IsNodesLife (n ∷ before)) b.is
          (turns b.made b.past (events.Step node b.source b.stop) (took_of before node b.made b.past did) did [] b.running (same_self node) refl refl refl
          (no_answer b.made b.past did (λ h. stepped_then (asked_of before node) (dropped_of before node) (answers_of before node) b.made b.past h b.source (clock_of before) b.stop)))

      replied : (noted : Noted) → WasAnswered setting before node noted → IsNodesLife (noted ∷ before)
      unfolding after
      replied noted b =
          let did = engine.replied b.number b.answer (clock_of before) in
          subst (λ (n : Noted). IsNodesLife (n ∷ before)) b.is
          (turns b.made b.past (events.Answer node b.ref b.answer) None did ((b.number, b.answer) ∷ []) b.running (same_self node) refl
          (ap (λ (o : Option ℕ). option_map_or (λ (n : ℕ). (n, b.answer) ∷ []) o []) b.named) refl
          (λ h r. answered_then (asked_of before node) (dropped_of before node) (answers_of before node) b.made b.past h b.number b.answer (clock_of before) b.taken))

      crashed : (noted : Noted) → HasCrashed setting before node noted → IsNodesLife (noted ∷ before)
      unfolding after
      crashed noted b = subst (λ (n : Noted). IsNodesLife (n ∷ before)) b.is (goes (noted_blank before (events.Crash node) (Some node)) false (same_self node) refl tt)

      turned : (noted : Noted) → IsTurnOf setting before node noted → IsNodesLife (noted ∷ before)
      turned noted t = elim t [
        | inl e ↦ still noted e
        | inr a ↦ elim a [
          | inl s ↦ started noted s
          | inr b ↦ elim b [
            | inl h ↦ heard noted h
            | inr c ↦ elim c [
              | inl p ↦ stepped noted p
              | inr d ↦ elim d [
                | inl w ↦ replied noted w
                | inr z ↦ crashed noted z
              ]
            ]
          ]
        ]
      ]

    pub lives : runs_engine setting.setup node.member ≡ true → (noted : List Noted) → IsRun setting noted → IsNodesLife noted
    unfolding IsRun life_in
    lives good [] r = tt
    lives good (noted ∷ before) r = turned before (lives good before r.2) noted (entry_turns setting before node good r.0 noted r.1)
