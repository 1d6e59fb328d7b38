-- What lanes hold, when a task is put last, taken first, or makes its step.
use Rattle.std.proofs.Common.{◌≡◌, ℕ, ◌+◌, ◌%◌, ◌<◌, ◌==◌, zero, suc, Bool, true, false, List, [], ◌∷◌, ◌++◌, length, Option, Some, None, refl, sym, ap, ◌∙◌, subst, arith, eqb-true, eq-eqb, if◌then◌else◌}
use Rattle.std.specs.List.{slice_get}
use Rattle.std.specs.Option.{option_to_list}
use Rattle.simplex_transcript.specs.declared.event.Event.{Event}
use Rattle.simplex_par.specs.declared.lanes.Dealt.{Dealt}
use Rattle.simplex_par.specs.declared.lanes.Lane.{Lane}
use Rattle.simplex_par.specs.Lanes.{share, Each, LanesHold, MakesStep, AllStep, LanesStep, AreEmpty, if_own, PutsLast, TakesFirst}
use Rattle.simplex_par.proofs.Lists.{skip, pick, some_at}

-- ---- each task makes its step

each_step : (P Q : Event → Dealt → Type 0) → ((event : Event) (old new : Dealt) → P event old → MakesStep old new → Q event new)
    → (events : List Event) (olds news : List Dealt) → Each P events olds → AllStep olds news → Each Q events news
unfolding Each
each_step P Q f [] [] [] p s = tt
each_step P Q f [] [] (n ∷ news) p s = absurd (omega (arith, s.0))
each_step P Q f [] (o ∷ olds) news p s = absurd p
each_step P Q f (e ∷ events) [] news p s = absurd p
each_step P Q f (e ∷ events) (o ∷ olds) [] p s = absurd (omega (arith, s.0))
each_step P Q f (e ∷ events) (o ∷ olds) (n ∷ news) p s =
    let first = s.1 zero n refl in
    let same : o ≡ first.0 = cc in
    (f e o n p.0 (subst (λ x. MakesStep x n) (sym same) first.2), each_step P Q f events olds news p.1 (omega (arith, s.0), λ at new is. s.1 (suc at) new is))

pub lanes-step : (P Q : Event → Dealt → Type 0) → ((event : Event) (old new : Dealt) → P event old → MakesStep old new → Q event new)
    → (workers place : ℕ) (events : List Event) (olds news : List Lane) → LanesHold P workers place events olds → LanesStep olds news
    → LanesHold Q workers place events news
lanes-step P Q f workers place events olds news hold step =
    record {
      count = step.0 ∙ hold.count;
      each = λ worker new is.
          let s = step.1 worker new is in
          each_step P Q f (share workers worker place events) s.0.dealt.items new.dealt.items (hold.each worker s.0 s.1) s.2;
    }

-- ---- a task is put last

share_more : (workers worker place : ℕ) (events : List Event) (event : Event)
    → share workers worker place (events ++ event ∷ []) ≡ share workers worker place events ++ if_own workers worker (place + length events) (event ∷ [])
unfolding share
share_more workers worker place [] event = ap (λ (p : ℕ). if_own workers worker p (event ∷ [])) (omega arith)
share_more workers worker place (x ∷ events) event = by (place % workers == worker) (share_more workers worker (place + 1) events event)
  where
    same : if_own workers worker (place + 1 + length events) (event ∷ []) ≡ if_own workers worker (place + length (x ∷ events)) (event ∷ [])
    same = ap (λ (p : ℕ). if_own workers worker p (event ∷ [])) (omega arith)

    by : (b : Bool) → share workers worker (place + 1) (events ++ event ∷ [])
        ≡ share workers worker (place + 1) events ++ if_own workers worker (place + 1 + length events) (event ∷ [])
        → (if b then x ∷ share workers worker (place + 1) (events ++ event ∷ []) else share workers worker (place + 1) (events ++ event ∷ []))
        ≡ (if b then x ∷ share workers worker (place + 1) events else share workers worker (place + 1) events) ++ if_own workers worker (place + length (x ∷ events)) (event ∷ [])
    by true old = ap (λ list. x ∷ list) (old ∙ ap (λ list. share workers worker (place + 1) events ++ list) same)
    by false old = old ∙ ap (λ list. share workers worker (place + 1) events ++ list) same

each_both : (P : Event → Dealt → Type 0) (events more : List Event) (tasks last : List Dealt) → Each P events tasks → Each P more last → Each P (events ++ more) (tasks ++ last)
unfolding Each
each_both P [] more [] last p q = q
each_both P [] more (t ∷ tasks) last p q = absurd p
each_both P (e ∷ events) more [] last p q = absurd p
each_both P (e ∷ events) more (t ∷ tasks) last p q = (p.0, each_both P events more tasks last p.1 q)

each_own : (P : Event → Dealt → Type 0) (workers worker place : ℕ) (event : Event) (task : Dealt) → P event task
    → Each P (if_own workers worker place (event ∷ [])) (if_own workers worker place (task ∷ []))
unfolding Each
each_own P workers worker place event task p = by (place % workers == worker)
  where
    by : (b : Bool) → Each P (if b then event ∷ [] else []) (if b then task ∷ [] else [])
    by true = (p, tt)
    by false = tt

pub lanes-put : (P : Event → Dealt → Type 0) (workers : ℕ) (events : List Event) (event : Event) (task : Dealt) (olds news : List Lane)
    → LanesHold P workers 0 events olds → P event task → PutsLast (length events) task olds news → LanesHold P workers 0 (events ++ event ∷ []) news
lanes-put P workers events event task olds news hold here put =
    record {
      count = put.0 ∙ hold.count;
      each = λ worker new is.
          let s = put.1 worker new is in
          let tasks : new.dealt.items ≡ s.0.dealt.items ++ if_own workers worker (length events) (task ∷ []) =
          s.2 ∙ ap (λ (n : ℕ). s.0.dealt.items ++ if_own n worker (length events) (task ∷ [])) hold.count in
          let shares : share workers worker 0 (events ++ event ∷ []) ≡ share workers worker 0 events ++ if_own workers worker (length events) (event ∷ []) =
          share_more workers worker 0 events event ∙ ap (λ (p : ℕ). share workers worker 0 events ++ if_own workers worker p (event ∷ [])) (omega arith) in
          subst (λ es. Each P es new.dealt.items) (sym shares)
          (subst (λ ts. Each P (share workers worker 0 events ++ if_own workers worker (length events) (event ∷ [])) ts) (sym tasks)
          (each_both P (share workers worker 0 events) (if_own workers worker (length events) (event ∷ [])) s.0.dealt.items (if_own workers worker (length events) (task ∷ []))
          (hold.each worker s.0 s.1) (each_own P workers worker (length events) event task here)));
    }

pub lanes-none : (P : Event → Dealt → Type 0) (workers : ℕ) (lanes : List Lane) → AreEmpty workers lanes → LanesHold P workers 0 [] lanes
unfolding Each share
lanes-none P workers lanes empty =
    record { count = empty.0; each = λ worker lane is. subst (λ ts. Each P [] ts) (sym (empty.1 worker lane is)) tt }

-- ---- a task is taken first

pub record Taken (P : Event → Dealt → Type 0) (workers place : ℕ) (event : Event) (events : List Event) (task : Option Dealt) (news : List Lane) : Type 0 where
  pub first : Dealt
  pub is : task ≡ Some first
  pub holds : P event first
  pub rest : LanesHold P workers (place + 1) events news

own_test : (workers place : ℕ) → (place % workers == place % workers) ≡ true
own_test workers place = eq-eqb (place % workers) (place % workers) refl

-- what the worker of this place has
own_each : (P : Event → Dealt → Type 0) (workers worker place : ℕ) (event : Event) (events : List Event) (tasks news : List Dealt) (task : Option Dealt)
    → (place % workers == worker) ≡ true → Each P (share workers worker place (event ∷ events)) tasks → tasks ≡ if_own workers worker place (option_to_list task) ++ news
    → (task ≡ None → tasks ≡ []) → (first : Dealt) × (task ≡ Some first) × P event first × Each P (share workers worker (place + 1) events) news
unfolding share Each
own_each P workers worker place event events tasks news task own each is none =
    by task refl (subst (λ es. Each P es tasks) (pick (place % workers == worker) (event ∷ share workers worker (place + 1) events) (share workers worker (place + 1) events) own) each)
    (is ∙ ap (λ list. list ++ news) (pick (place % workers == worker) (option_to_list task) [] own)) none
  where
    by : (o : Option Dealt) → task ≡ o → Each P (event ∷ share workers worker (place + 1) events) tasks → tasks ≡ option_to_list task ++ news → (task ≡ None → tasks ≡ [])
        → (first : Dealt) × (task ≡ Some first) × P event first × Each P (share workers worker (place + 1) events) news
    by None e h i n = absurd (subst (λ ts. Each P (event ∷ share workers worker (place + 1) events) ts) (n e) h)
    by (Some t) e h i n =
        let both : Each P (event ∷ share workers worker (place + 1) events) (t ∷ news) =
        subst (λ ts. Each P (event ∷ share workers worker (place + 1) events) ts) (i ∙ ap (λ o. option_to_list o ++ news) e) h in
        (t, e, both.0, both.1)

other_each : (P : Event → Dealt → Type 0) (workers worker place : ℕ) (event : Event) (events : List Event) (tasks news : List Dealt) (task : Option Dealt)
    → (place % workers == worker) ≡ false → Each P (share workers worker place (event ∷ events)) tasks → tasks ≡ if_own workers worker place (option_to_list task) ++ news
    → Each P (share workers worker (place + 1) events) news
unfolding share
other_each P workers worker place event events tasks news task other each is =
    subst (λ ts. Each P (share workers worker (place + 1) events) ts) (is ∙ ap (λ list. list ++ news) (skip (place % workers == worker) (option_to_list task) [] other))
    (subst (λ es. Each P es tasks) (skip (place % workers == worker) (event ∷ share workers worker (place + 1) events) (share workers worker (place + 1) events) other) each)

pub lanes-take : (P : Event → Dealt → Type 0) (workers place : ℕ) (event : Event) (events : List Event) (task : Option Dealt) (olds news : List Lane)
    → 0 < workers → place % workers < workers → LanesHold P workers place (event ∷ events) olds → TakesFirst place task olds news → Taken P workers place event events task news
lanes-take P workers place event events task olds news some below hold take =
    let new = some_at news (place % workers) (subst (λ (n : ℕ). place % workers < n) (sym (take.lanes.0 ∙ hold.count)) below) in
    let mine = at_own (place % workers) new.0 (own_test workers place) new.1 in
    record {
      first = mine.0;
      is = mine.1;
      holds = mine.2;
      rest = record { count = take.lanes.0 ∙ hold.count; each = λ worker lane is. by worker lane is (place % workers == worker) refl };
    }
  where
    none_there : (worker : ℕ) (old : Lane) → (place % workers == worker) ≡ true → slice_get olds worker ≡ Some old → task ≡ None → old.dealt.items ≡ []
    none_there worker old own is none =
        let there : place % length olds ≡ worker = ap (λ (n : ℕ). place % n) hold.count ∙ eqb-true (place % workers) worker own in
        take.none none old (ap (λ (w : ℕ). slice_get olds w) there ∙ is)

    tasks_are : (worker : ℕ) (old new : Lane) → old.dealt.items ≡ if_own (length olds) worker place (option_to_list task) ++ new.dealt.items
        → old.dealt.items ≡ if_own workers worker place (option_to_list task) ++ new.dealt.items
    tasks_are worker old new is = is ∙ ap (λ (n : ℕ). if_own n worker place (option_to_list task) ++ new.dealt.items) hold.count

    at_own : (worker : ℕ) (new : Lane) → (place % workers == worker) ≡ true → slice_get news worker ≡ Some new
        → (first : Dealt) × (task ≡ Some first) × P event first × Each P (share workers worker (place + 1) events) new.dealt.items
    at_own worker new own is =
        let s = take.lanes.1 worker new is in
        own_each P workers worker place event events s.0.dealt.items new.dealt.items task own (hold.each worker s.0 s.1) (tasks_are worker s.0 new s.2)
        (none_there worker s.0 own s.1)

    by : (worker : ℕ) (new : Lane) → slice_get news worker ≡ Some new → (b : Bool) → (place % workers == worker) ≡ b → Each P (share workers worker (place + 1) events) new.dealt.items
    by worker new is true own = (at_own worker new own is).3
    by worker new is false other =
        let s = take.lanes.1 worker new is in
        other_each P workers worker place event events s.0.dealt.items new.dealt.items task other (hold.each worker s.0 s.1) (tasks_are worker s.0 new s.2)
