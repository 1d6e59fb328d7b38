-- A request that is answered is pending by the record.
use Rattle.std.proofs.Common.{◌≡◌, ℕ, ◌+◌, ◌≤◌, ◌==◌, ◌&&◌, ◌||◌, nat_lt, not, Bool, true, false, List, [], ◌∷◌, ◌++◌, map, length, Option, Some, None, refl, sym, ap, ◌∙◌, subst, inl, inr, ◌⊎◌, arith, eqb-true, ltb-true, if◌then◌else◌}
use Rattle.std.specs.Prelude.{find}
use Rattle.std.specs.Option.{is_none, option_map, option_map_or}
use Rattle.simplex_values.specs.declared.answer.Answer.{Answer}
use Rattle.model_rules.specs.declared.request.Asked.{Asked}
use Rattle.simplex_transcript.specs.declared.event.Event.{Event}
use Rattle.simplex_transcript.specs.declared.event.Event.TheVariants as events
use Rattle.simplex_transcript.specs.declared.node.Node.{Node}
use Rattle.simplex_transcript.specs.declared.node.Ref.{Ref}
use Rattle.model_steps.specs.Voter.{Standing, answer_to, takes_answer}
use Rattle.model_steps.specs.Voter as voter
use Rattle.model_steps.specs.VoterLife.{place_of}
use Rattle.model_steps.specs.Engine as engine
use Rattle.model_steps.specs.Engine.{voter_in, voter_past}
use Rattle.model_run.specs.Setting.{Setting}
use Rattle.model_run.specs.Kinds.{is_same_node, runs_engine}
use Rattle.model_run.specs.Life.{Noted, is_of}
use Rattle.model_run.specs.Requests.{is_start, first_number, request_number}
use Rattle.law_run.specs.Histories.{IsRun}
use Rattle.law_run.proofs.Further.{same_self, same_node}
use Rattle.law_run.proofs.Telling.{some_is}
use Rattle.law_run.specs.Asked.{asked_at, asked_of}
use Rattle.law_run.proofs.Numbers.{number_names}
use Rattle.model_audit.specs.Answers.{answer_fits}
use Rattle.law_requests.specs.Since.{dropped_of, answer_in, answers_of}
use Rattle.law_requests.specs.Open.{is_dropped, IsTakenBy}
use Rattle.law_requests.specs.Turns.{WasAnswered, IsTurnOf}
use Rattle.law_requests.proofs.Numbers.{first_part, second_part}
use Rattle.law_requests.proofs.Requests.{standing_in}
use Rattle.law_requests.proofs.Stepping.{taken_by}
use Rattle.law_requests.proofs.Turning.{entry_turns}
use Rattle.model_audit.specs.Record.{record_entry}
use Rattle.model_audit.specs.Rebuilt.{rebuilt_entry, recorded}
use Rattle.model_audit.specs.Running.{is_same_ref}
use Rattle.model_audit.specs.Conditions.{was_dropped, answers_it, was_answered, is_pending}
use Rattle.law_audit.proofs.Telling.{counted, same_request}
use Rattle.law_audit.proofs.Taken.{same_asked_at}

same_dropped : (before : List Noted) (node : Node) (event number : ℕ) → was_dropped (map recorded before) node event number ≡ was_dropped before node event number
unfolding was_dropped rebuilt_entry record_entry
same_dropped [] node event number = refl
same_dropped (noted ∷ before) node event number = rw (counted before, same_dropped before node event number) refl

same_answered : (before : List Noted) (node : Node) (at : Ref) → was_answered (map recorded before) node at ≡ was_answered before node at
same_answered [] node at = refl
same_answered (noted ∷ before) node at = rw (same_answered before node at) refl

nothing_below : (n : ℕ) → nat_lt n 0 ≡ false
nothing_below n = at (nat_lt n 0) refl
  where
    at : (b : Bool) → nat_lt n 0 ≡ b → b ≡ false
    at true e = absurd (omega (arith, ltb-true n 0 e))
    at false e = refl

-- ---- what was dropped since the start

not_dropped : (before : List Noted) (node : Node) (at : Ref) (number k : ℕ) → request_number before node at ≡ Some k → is_dropped (dropped_of before node) number ≡ false → was_dropped before node at.event number ≡ false
unfolding request_number dropped_of was_dropped
not_dropped [] node at number k e h = refl
not_dropped (noted ∷ before) node at number k e h =
    cases (length before + 1 == at.event) (is_of node noted.event) (is_start noted.event) (nat_lt at.place (length noted.entry.asked)) (not_dropped before node at number k) e h
  where
    old : List ℕ
    old = dropped_of before node

    new : List ℕ
    new = noted.entry.dropped

    either : (a b : Bool) → a ≡ false → b ≡ false → (a || b) ≡ false
    either a b p q = ap (λ x. x || b) p ∙ q

    cases : (b o s w : Bool) → (request_number before node at ≡ Some k → is_dropped old number ≡ false → was_dropped before node at.event number ≡ false)
        → (if b then (if o && w then Some (first_number noted before node + at.place) else None) else if o && s then None else request_number before node at) ≡ Some k
        → is_dropped (if o then (if s then new else old ++ new) else old) number ≡ false → ((o && is_dropped new number) || (not b && was_dropped before node at.event number)) ≡ false
    cases true false s w earlier e h = cc
    cases true true s false earlier e h = cc
    cases true true true true earlier e h = either (is_dropped new number) false h refl
    cases true true false true earlier e h = either (is_dropped new number) false (second_part old new number h) refl
    cases false true true w earlier e h = cc
    cases false true false w earlier e h = either (is_dropped new number) (was_dropped before node at.event number) (second_part old new number h) (earlier e (first_part old new number h))
    cases false false s w earlier e h = earlier e h

-- ---- what was answered since the start

-- an answer to the number came
abbrev Came : List (ℕ × Answer) → ℕ → Type 0
Came given number = is_none (answer_to given number) ≡ false

came_front : (xs ys : List (ℕ × Answer)) (number : ℕ) → Came xs number → Came (xs ++ ys) number
came_front [] ys number h = cc
came_front (x ∷ xs) ys number h = at (x.0 == number) (came_front xs ys number) h
  where
    at : (b : Bool) → (is_none (answer_to xs number) ≡ false → is_none (answer_to (xs ++ ys) number) ≡ false) → is_none (option_map (λ (g : ℕ × Answer). g.1) (if b then Some x else find (voter.is_of number) xs)) ≡ false
        → is_none (option_map (λ (g : ℕ × Answer). g.1) (if b then Some x else find (voter.is_of number) (xs ++ ys))) ≡ false
    at true later k = refl
    at false later k = later k

came_last : (xs : List (ℕ × Answer)) (number : ℕ) (answer : Answer) → Came (xs ++ (number, answer) ∷ []) number
came_last [] number answer = at (number == number) (eq_self number)
  where
    eq_self : (n : ℕ) → (n == n) ≡ true
    eq_self n = at (n == n) refl
      where
        at : (t : Bool) → (n == n) ≡ t → t ≡ true
        at true e = refl
        at false e = grind (arith, e)

    at : (b : Bool) → b ≡ true → is_none (option_map (λ (g : ℕ × Answer). g.1) (if b then Some (number, answer) else None)) ≡ false
    at true e = refl
    at false e = cc
came_last (x ∷ xs) number answer = at (x.0 == number) (came_last xs number answer)
  where
    at : (b : Bool) → is_none (answer_to (xs ++ (number, answer) ∷ []) number) ≡ false
        → is_none (option_map (λ (g : ℕ × Answer). g.1) (if b then Some x else find (voter.is_of number) (xs ++ (number, answer) ∷ []))) ≡ false
    at true later = refl
    at false later = later

-- a name that a node knows is of an event so far
named_so_far : (before : List Noted) (node : Node) (at : Ref) (k : ℕ) → request_number before node at ≡ Some k → at.event ≤ length before
unfolding request_number
named_so_far [] node at k e = cc
named_so_far (noted ∷ before) node at k e = cases (length before + 1 == at.event) (is_of node noted.event && is_start noted.event) refl (named_so_far before node at k) e
  where
    cases : (b c : Bool) → (length before + 1 == at.event) ≡ b → (request_number before node at ≡ Some k → at.event ≤ length before)
        → (if b then (if is_of node noted.event && nat_lt at.place (length noted.entry.asked) then Some (first_number noted before node + at.place) else None) else if c then None else request_number before node at) ≡ Some k → at.event ≤ length (noted ∷ before)
    cases true c t earlier e = omega (arith, eqb-true (length before + 1) at.event t)
    cases false true t earlier e = cc
    cases false false t earlier e = omega (arith, earlier e)

-- the event answers this request of the node
record IsAnswer (before : List Noted) (node : Node) (noted : Noted) (at : Ref) : Type 0 where
  pub number : ℕ
  pub answer : Answer
  pub of : is_of node noted.event ≡ true
  pub start : is_start noted.event ≡ false
  pub named : request_number before node at ≡ Some number
  pub asked : noted.entry.asked ≡ []
  pub given : answer_in before node noted.event ≡ (number, answer) ∷ []

module _ (setting : Setting) (node : Node) (good : runs_engine setting.setup node.member ≡ true) where
  same_ref : (a b : Ref) → is_same_ref a b ≡ true → a ≡ b
  same_ref a b e = (let t = both (a.event == b.event) (a.place == b.place) e in from (eqb-true a.event b.event t.0) (eqb-true a.place b.place t.1))
    where
      both : (x y : Bool) → (x && y) ≡ true → (x ≡ true) × (y ≡ true)
      both true y h = (refl, h)
      both false y h = cc

      from : a.event ≡ b.event → a.place ≡ b.place → a ≡ b
      from p q = ap (λ (n : ℕ). record { event = n; place = a.place }) p ∙ ap (λ (n : ℕ). record { event = b.event; place = n }) q

  -- where an event answers it, it is such
  is_answer : (before : List Noted) (noted : Noted) (at : Ref) → IsTurnOf setting before node noted → answers_it node at noted.event ≡ true → IsAnswer before node noted at
  is_answer before noted at t e = elim t [
    | inl apart ↦ absurd (not_apart noted.event apart e)
    | inr a ↦ elim a [
      | inl s ↦ absurd (never (ap (λ (n : Noted). answers_it node at n.event) s.is ∙ e))
      | inr b ↦ elim b [
        | inl h ↦ absurd (never (ap (λ (n : Noted). answers_it node at n.event) h.is ∙ e))
        | inr c ↦ elim c [
          | inl p ↦ absurd (never (ap (λ (n : Noted). answers_it node at n.event) p.is ∙ e))
          | inr d ↦ elim d [
            | inl w ↦ answered w (ap (λ (n : Noted). answers_it node at n.event) w.is ∙ e)
            | inr z ↦ absurd (never (ap (λ (n : Noted). answers_it node at n.event) z.is ∙ e))
          ]
        ]
      ]
    ]
  ]
    where
      never : false ≡ true → ⊥
      never h = cc

      first : (x y : Bool) → (x && y) ≡ true → x ≡ true
      first true y h = refl
      first false y h = cc

      second : (x y : Bool) → (x && y) ≡ true → y ≡ true
      second true y h = h
      second false y h = cc

      not_apart : (event : Event) → is_of node event ≡ false → answers_it node at event ≡ true → ⊥
      not_apart (events.Answer other ref answer) a h =
          let same : node ≡ other = same_node node other (first (is_same_node node other) (is_same_ref at ref) h) in
          never (sym a ∙ ap (λ (n : Node). is_same_node other n) same ∙ same_self other)
      not_apart (events.Start other floor stop) a h = cc
      not_apart (events.Tick ms) a h = cc
      not_apart (events.Deliver other ref) a h = cc
      not_apart (events.Step other source stop) a h = cc
      not_apart (events.Crash other) a h = cc
      not_apart (events.Inject member channel to bytes) a h = cc

      answered : (w : WasAnswered setting before node noted) → answers_it node at (events.Answer node w.ref w.answer) ≡ true → IsAnswer before node noted at
      answered w h =
          let same : at ≡ w.ref = same_ref at w.ref (second (is_same_node node node) (is_same_ref at w.ref) h) in
          subst (λ (n : Noted). IsAnswer before node n at) w.is
          (record {
            number = w.number;
            answer = w.answer;
            of = same_self node;
            start = refl;
            named = ap (request_number before node) same ∙ w.named;
            asked = refl;
            given = ap (λ (o : Option ℕ). option_map_or (λ (n : ℕ). (n, w.answer) ∷ []) o []) w.named;
          })

  either : (a b : Bool) → (a || b) ≡ true → (a ≡ true) ⊎ (b ≡ true)
  either true b e = inl refl
  either false b e = inr e

  answered_so_far : (before : List Noted) (at : Ref) → IsRun setting before → was_answered before node at ≡ true → at.event ≤ length before
  unfolding IsRun
  answered_so_far [] at r e = cc
  answered_so_far (noted ∷ before) at r e = elim (either (answers_it node at noted.event) (was_answered before node at) e) [
    | inl now ↦ (let a = is_answer before noted at (entry_turns setting before node good r.0 noted r.1) now in omega (arith, named_so_far before node at a.number a.named))
    | inr old ↦ omega (arith, answered_so_far before at r.2 old)
  ]

  answer_came : (before : List Noted) (at : Ref) (number : ℕ) → IsRun setting before → request_number before node at ≡ Some number → was_answered before node at ≡ true → Came (answers_of before node) number
  unfolding IsRun request_number answers_of
  answer_came [] at number r n e = cc
  answer_came (noted ∷ before) at number r n e = elim (either (answers_it node at noted.event) (was_answered before node at) e) [
    | inl now ↦ last (is_answer before noted at (entry_turns setting before node good r.0 noted r.1) now)
    | inr old ↦ cases (length before + 1 == at.event) (is_of node noted.event) (is_start noted.event) (answered_so_far before at r.2 old) refl (λ m. answer_came before at number r.2 m old) n
  ]
    where
      last : IsAnswer before node noted at → Came (if is_of node noted.event then (if is_start noted.event then [] else answers_of before node ++ answer_in before node noted.event) else answers_of before node) number
      last a =
          let m : a.number ≡ number = by (length before + 1 == at.event) n in
          subst (λ o. Came (if o then (if is_start noted.event then [] else answers_of before node ++ answer_in before node noted.event) else answers_of before node) number) (sym a.of)
          (subst (λ s. Came (if s then [] else answers_of before node ++ answer_in before node noted.event) number) (sym a.start)
          (subst (λ xs. Came (answers_of before node ++ xs) number) (sym a.given)
          (subst (λ k. Came (answers_of before node ++ (a.number, a.answer) ∷ []) k) m (came_last (answers_of before node) a.number a.answer))))
        where
          none : (o : Bool) → (o && nat_lt at.place 0) ≡ false
          none true = nothing_below at.place
          none false = refl

          by : (b : Bool) → (if b then (if is_of node noted.event && nat_lt at.place (length noted.entry.asked) then Some (first_number noted before node + at.place) else None)
              else if is_of node noted.event && is_start noted.event then None else request_number before node at) ≡ Some number → a.number ≡ number
          by true h = absurd (no_some _ (ap (λ xs. is_of node noted.event && nat_lt at.place (length xs)) a.asked ∙ none (is_of node noted.event)) h)
            where
              no_some : (c : Bool) → c ≡ false → (if c then Some (first_number noted before node + at.place) else None) ≡ Some number → ⊥
              no_some true f k = cc
              no_some false f k = cc
          by false h = later (is_of node noted.event && is_start noted.event) h
            where
              later : (c : Bool) → (if c then None else request_number before node at) ≡ Some number → a.number ≡ number
              later true k = cc
              later false k = some_is a.number number (sym a.named ∙ k)

      cases : (b o s : Bool) → at.event ≤ length before → (length before + 1 == at.event) ≡ b → (request_number before node at ≡ Some number → Came (answers_of before node) number)
          → (if b then (if o && nat_lt at.place (length noted.entry.asked) then Some (first_number noted before node + at.place) else None) else if o && s then None else request_number before node at) ≡ Some number
          → Came (if o then (if s then [] else answers_of before node ++ answer_in before node noted.event) else answers_of before node) number
      cases true o s early t earlier h = absurd (omega (arith, early, eqb-true (length before + 1) at.event t))
      cases false true true early t earlier h = cc
      cases false true false early t earlier h = came_front (answers_of before node) (answer_in before node noted.event) number (earlier h)
      cases false false s early t earlier h = earlier h

  -- ---- it is pending

  pub pending_read : (before : List Noted) (noted : Noted) (w : WasAnswered setting before node noted) → IsRun setting before → is_pending (map recorded before) node w.ref w.answer ≡ true
  unfolding is_pending engine.takes_reply takes_answer
  pending_read before noted w ran =
      let s = (place_of (voter_in w.made w.past) (voter_past w.past)).standing in
      let h = standing_in setting before node w.made w.past ran good w.running in
      let k : IsTakenBy (asked_of before node) (dropped_of before node) w.number w.answer = taken_by (asked_of before node) (dropped_of before node) (voter_in w.made w.past).rules 0 s h.0 w.number w.answer w.taken in
      let o = k.is in
      let n = number_names before node w.ref w.number w.named in
      let same : n.0 ≡ k.request = some_is n.0 k.request (sym n.1 ∙ o.stands) in
      let kept : was_dropped (map recorded before) node w.ref.event w.number ≡ false = same_dropped before node w.ref.event w.number ∙ not_dropped before node w.ref w.number w.number w.named o.kept in
      let fresh : was_answered (map recorded before) node w.ref ≡ false = same_answered before node w.ref ∙ unanswered s h.1 w.taken in
      let fits : option_map_or (λ asked. answer_fits asked w.answer) (asked_at (map recorded before) w.ref) false ≡ true =
      ap (λ (o : Option Asked). option_map_or (λ asked. answer_fits asked w.answer) o false) (same_asked_at before w.ref ∙ n.2) ∙ ap (λ (x : Asked). answer_fits x w.answer) same ∙ k.fits in
      let number : request_number (map recorded before) node w.ref ≡ Some w.number = same_request before node w.ref ∙ w.named in
      rw (number, kept, fresh, fits) refl
    where
      unanswered : (s : Standing) → s.answers ≡ answers_of before node → takes_answer s w.number w.answer ≡ true → was_answered before node w.ref ≡ false
      unanswered s same t = at (was_answered before node w.ref) refl
        where
          first : (x y : Bool) → (x && y) ≡ true → x ≡ true
          first true y h = refl
          first false y h = cc

          never : true ≡ false → ⊥
          never e = cc

          at : (b : Bool) → was_answered before node w.ref ≡ b → b ≡ false
          at true e = absurd (never (sym (first (is_none (answer_to s.answers w.number)) _ t) ∙ ap (λ (xs : List (ℕ × Answer)). is_none (answer_to xs w.number)) same ∙ answer_came before w.ref w.number ran w.named e))
          at false e = refl
