-- Views without an ask that is done with stay as they are, so a retirement need not look at them.
use Rattle.std.proofs.Common.{◌≡◌, ◌==◌, ◌&&◌, ℕ, Bool, true, false, cond, refl, sym, ap, ◌∙◌, List, [], ◌∷◌, ◌++◌, Option, Some, None, arith}
use Rattle.std.specs.Prelude.{if◌then◌else◌}
use Rattle.std.proofs.lemmas.Grind.{common_steps}
use Rattle.std.proofs.lemmas.Bool.Decides.{nat_tests}
use Rattle.std.specs.Cmp.{unsigned_tied}
use Rattle.simplex_values.specs.declared.ask.Ask.{Ask}
use Rattle.model_resolver.specs.declared.arrivals.Arrival.{Arrival}
use Rattle.model_resolver.specs.declared.entry.Entry.{Entry}
use Rattle.model_resolver.specs.declared.retire.Retire.{Retire}
use Rattle.model_resolver.specs.declared.retire.Retire.TheVariants.{Settled, Finalized, Floor}
use Rattle.model_resolver.specs.Asks.{asks_any, without_asks, same_kind, same_until}
use Rattle.simplex_values.specs.declared.ask.Until.TheVariants as until
use Rattle.model_resolver.specs.Retirement.{reaches, retires, touches}
use Rattle.model_resolver.specs.Views.{entry_at, with_entry, views_where}
use Rattle.model_resolver.specs.Fetcher.{Machine, After, quiet, keeping, forgetting, left_of, visited, without, is_empty, kept_or_left, retired_at, retiring, IsSound, IsSoundEntry}
use Rattle.simplex_fetch.proofs.Entries.{Rising, above_head, tail_rises, entry_at-above, entry_at-put, entry_at-taken, with_entry-same, rising_put, rising_taken}

-- where no ask passes the test all stay
pub without_untouched : (test : Ask → Bool) (asks : List Arrival) → asks_any test asks ≡ false → without_asks test asks ≡ asks
without_untouched test [] none = refl
without_untouched test (x ∷ xs) none =
    let rest : asks_any test xs ≡ false → without_asks test xs ≡ xs = without_untouched test xs in
    let here : test x.ask ≡ false = grind (arith, common_steps) in
    let later : asks_any test xs ≡ false = grind (arith, common_steps) in
    let is = rest later in grind (arith, common_steps)

pub retires_untouched : (retire : Retire) (asks : List Arrival) → touches retire asks ≡ false → without_asks (retires retire) asks ≡ asks
unfolding touches
retires_untouched (Settled k start end) asks none = without_untouched (λ ask. same_kind ask.kind k) asks none
retires_untouched (Finalized finalized) asks none = cc
retires_untouched (Floor floor) asks none = without_untouched (λ ask. same_until ask.until until.Floor) asks none

-- an entry that has asks and is put where it is stays
pub kept_same : (view : ℕ) (e : Entry) (f : Machine) → is_empty e ≡ false → with_entry view e f.views ≡ f.views → kept_or_left view e f ≡ quiet f
unfolding kept_or_left
kept_same view e f some same = grind (arith, common_steps)

pub retiring_untouched : (retire : Retire) (view : ℕ) (e : Entry) (f : Machine) → Rising f.views → entry_at f.views view ≡ Some e → is_empty e ≡ false
    → touches retire e.arrivals ≡ false → retiring retire view f ≡ quiet f
unfolding retiring retired_at
retiring_untouched retire view e f rises at some none =
    let same : without (retires retire) e ≡ e = ap (λ asks. record e { arrivals = asks }) (retires_untouched retire e.arrivals none) in
    ap (retired_at retire view f) at ∙ ap (λ entry. kept_or_left view entry f) same ∙ kept_same view e f some (with_entry-same view e f.views rises at)

-- a view that is retired leaves all others where they were
pub kept_elsewhere : (view : ℕ) (e : Entry) (f : Machine) (q : ℕ) → (view == q) ≡ false → entry_at (kept_or_left view e f).fetcher.views q ≡ entry_at f.views q
unfolding kept_or_left
kept_elsewhere view e f q apart =
    let put = entry_at-put view e f.views q in
    let taken = entry_at-taken view f.views q apart in
    grind (arith, common_steps)

pub retired_elsewhere : (retire : Retire) (view : ℕ) (f : Machine) (o : Option Entry) (q : ℕ) → (view == q) ≡ false → entry_at (retired_at retire view f o).fetcher.views q ≡ entry_at f.views q
unfolding retired_at
retired_elsewhere retire view f None q apart = refl
retired_elsewhere retire view f (Some e) q apart = kept_elsewhere view (without (retires retire) e) f q apart

pub retiring_elsewhere : (retire : Retire) (view : ℕ) (f : Machine) (q : ℕ) → (view == q) ≡ false → entry_at (retiring retire view f).fetcher.views q ≡ entry_at f.views q
unfolding retiring
retiring_elsewhere retire view f q apart = retired_elsewhere retire view f (entry_at f.views view) q apart

-- and the views rise as before
pub kept_rises : (view : ℕ) (e : Entry) (f : Machine) → Rising f.views → Rising (kept_or_left view e f).fetcher.views
unfolding kept_or_left
kept_rises view e f rises = elim (is_empty e) as (λ b. Rising (if b then record { fetcher = forgetting view f; outs = left_of e.state } else quiet (keeping view e f)).fetcher.views) [
  | true ↦ rising_taken view f.views rises
  | false ↦ rising_put view e f.views rises
]

pub retired_rises : (retire : Retire) (view : ℕ) (f : Machine) (o : Option Entry) → Rising f.views → Rising (retired_at retire view f o).fetcher.views
unfolding retired_at
retired_rises retire view f None rises = rises
retired_rises retire view f (Some e) rises = kept_rises view (without (retires retire) e) f rises

pub retiring_rises : (retire : Retire) (view : ℕ) (f : Machine) → Rising f.views → Rising (retiring retire view f).fetcher.views
unfolding retiring
retiring_rises retire view f rises = retired_rises retire view f (entry_at f.views view) rises

-- a view whose change is none can be left out
pub visited_quiet : (change : ℕ → Machine → After) (view : ℕ) (views : List ℕ) (f : Machine) → change view f ≡ quiet f → visited change (view ∷ views) f ≡ visited change views f
unfolding visited
visited_quiet change view views f is =
    ap (λ (first : After). record { fetcher = (visited change views first.fetcher).fetcher; outs = first.outs ++ (visited change views first.fetcher).outs }) is

-- what comes to the same behind a view comes to the same with it
pub visited_same : (change : ℕ → Machine → After) (view : ℕ) (views others : List ℕ) (f : Machine) → visited change views (change view f).fetcher ≡ visited change others (change view f).fetcher
    → visited change (view ∷ views) f ≡ visited change (view ∷ others) f
unfolding visited
visited_same change view views others f is =
    ap (λ (rest : After). record { fetcher = rest.fetcher; outs = (change view f).outs ++ rest.outs }) is

-- these views stand in the fetcher as they are, and each has asks
abbrev pub StandIn : List (ℕ × Entry) → Machine → Type 0
StandIn es f = (q : ℕ) (e : Entry) → entry_at es q ≡ Some e → (entry_at f.views q ≡ Some e) × (is_empty e ≡ false)

-- the first view is there, and is none of the others
pub entry_at-first : (x : ℕ × Entry) (es : List (ℕ × Entry)) → entry_at (x ∷ es) x.0 ≡ Some x.1
unfolding entry_at
entry_at-first x es = grind (arith, common_steps, nat_tests, unsigned_tied x.0 x.0)

pub apart-first : (x : ℕ × Entry) (es : List (ℕ × Entry)) (q : ℕ) (e : Entry) → Rising (x ∷ es) → entry_at es q ≡ Some e → (x.0 == q) ≡ false
apart-first x es q e s at =
    let none = entry_at-above x.0 es (above_head x es s) in
    elim (x.0 == q) as (λ b. (x.0 == q) ≡ b → b ≡ false) [
      | true ↦ λ same. let here : x.0 ≡ q = grind (arith, nat_tests) in let no : Some e ≡ None = sym at ∙ rw here at none in cc
      | false ↦ λ apart. refl
    ] refl

pub entry_at-later : (x : ℕ × Entry) (es : List (ℕ × Entry)) (q : ℕ) (e : Entry) → Rising (x ∷ es) → entry_at es q ≡ Some e → entry_at (x ∷ es) q ≡ Some e
unfolding entry_at
entry_at-later x es q e s at = let apart = apart-first x es q e s at in grind (arith, common_steps, nat_tests, unsigned_tied q x.0)

-- it is enough to look at the views that are touched
pub visited_touched : (retire : Retire) (es : List (ℕ × Entry)) (f : Machine) → Rising es → Rising f.views → StandIn es f
    → visited (retiring retire) (views_where (λ view entry. reaches retire view && touches retire entry.arrivals) es) f
    ≡ visited (retiring retire) (views_where (λ view entry. reaches retire view) es) f
unfolding views_where
visited_touched retire [] f s rises stand = refl
visited_touched retire (x ∷ es) f s rises stand =
    let some : List ℕ = views_where (λ view entry. reaches retire view && touches retire entry.arrivals) es in
    let all : List ℕ = views_where (λ view entry. reaches retire view) es in
    let here = stand x.0 x.1 (entry_at-first x es) in
    let later : StandIn es f = λ q e at. stand q e (entry_at-later x es q e s at) in
    let rest = visited_touched retire es f (tail_rises x es s) rises later in
    elim (reaches retire x.0) as (λ r. visited (retiring retire) (cond (r && touches retire x.1.arrivals) (x.0 ∷ some) some) f ≡ visited (retiring retire) (cond r (x.0 ∷ all) all) f) [
      | false ↦ rest
      | true ↦ elim (touches retire x.1.arrivals) as (λ t. touches retire x.1.arrivals ≡ t → visited (retiring retire) (cond t (x.0 ∷ some) some) f ≡ visited (retiring retire) (x.0 ∷ all) f) [
        | true ↦ λ yes.
            let next : Machine = (retiring retire x.0 f).fetcher in
            let stay : StandIn es next = λ q e at.
            let was = later q e at in (retiring_elsewhere retire x.0 f q (apart-first x es q e s at) ∙ was.0, was.1) in
            visited_same (retiring retire) x.0 some all f (visited_touched retire es next (tail_rises x es s) (retiring_rises retire x.0 f rises) stay)
        | false ↦ λ no. rest ∙ sym (visited_quiet (retiring retire) x.0 all f (retiring_untouched retire x.0 x.1 f rises here.0 here.1 no))
      ] refl
    ]

-- each view of a fetcher has asks
pub sound_stand : (f : Machine) → IsSound f.config f.next_id f.views → StandIn f.views f
sound_stand f sound q e at =
    let is : IsSoundEntry f.next_id e = rw at at (sound.drawn q) in (at, is.wanted)

-- retiring the views that are touched is retiring all that are reached
pub retained_touched : (retire : Retire) (f : Machine) → IsSound f.config f.next_id f.views
    → visited (retiring retire) (views_where (λ view entry. reaches retire view && touches retire entry.arrivals) f.views) f
    ≡ visited (retiring retire) (views_where (λ view entry. reaches retire view) f.views) f
retained_touched retire f sound = visited_touched retire f.views f sound.rising sound.rising (sound_stand f sound)
