-- A change of an entry that was taken out, and put back, is a change where it stands.
use Rattle.std.proofs.Common.{◌≡◌, ◌≤◌, ◌+◌, ◌==◌, ℕ, true, false, List, [], ◌∷◌, Option, Some, None, refl, sym, ap, ◌∙◌, arith}
use Rattle.std.specs.Prelude.{if◌then◌else◌}
use Rattle.std.proofs.lemmas.Grind.{common_steps}
use Rattle.std.specs.Ordering.{nat_cmp}
use Rattle.std.specs.BTreeMap.{is_at}
use Rattle.simplex_values.specs.declared.ask.Outcome.{Outcome}
use Rattle.simplex_values.specs.declared.ask.Outcome.TheVariants as outcome
use Rattle.model_resolver.specs.Asks.{holds_ask}
use Rattle.model_resolver.specs.declared.entry.Entry.{Entry}
use Rattle.model_resolver.specs.declared.entry.State.{State}
use Rattle.model_resolver.specs.declared.entry.State.TheVariants.{Waiting, Asked, Judged}
use Rattle.model_resolver.specs.Views.{with_entry, without_entry, entry_at, judged_view}
use Rattle.model_resolver.specs.Fetcher.{Machine, quiet, attempted, attempting, attempted_at, expiring, expired_at, expired_as, asking, retrying, in_state, once_more, blocking, blocked_by, peer_of, judged, judged_at, judged_entry, refused, retried, IsSoundAt, IsSoundEntry, judged_as, asked_on, without, delivered_of, is_done}

-- what is put there is put there
abbrev pub PutsAlike : ℕ → List (ℕ × Entry) → List (ℕ × Entry) → Type 0
PutsAlike view taken views = (entry : Entry) → with_entry view entry taken ≡ with_entry view entry views

pub retrying_taken : (now view : ℕ) (entry : Entry) (fetcher : Machine) (taken : List (ℕ × Entry)) → PutsAlike view taken fetcher.views
    → retrying now view entry (record fetcher { views = taken }) ≡ retrying now view entry fetcher
unfolding retrying
retrying_taken now view entry fetcher taken alike = cc (alike _)

pub asking_taken : (now view : ℕ) (entry : Entry) (fetcher : Machine) (taken : List (ℕ × Entry)) (peer : Option ℕ) → PutsAlike view taken fetcher.views
    → asking now view entry (record fetcher { views = taken }) peer ≡ asking now view entry fetcher peer
unfolding asking
asking_taken now view entry fetcher taken None alike =
    let for_good = alike (in_state (Waiting None) entry) in
    let again = retrying_taken now view (once_more entry) fetcher taken alike in
    grind (arith, common_steps, for_good, again)
asking_taken now view entry fetcher taken (Some peer) alike = cc (alike _)

pub attempted_taken : (now view : ℕ) (entry : Entry) (fetcher : Machine) (taken : List (ℕ × Entry)) → PutsAlike view taken fetcher.views
    → attempted now view entry (record fetcher { views = taken }) ≡ attempted now view entry fetcher
unfolding attempted
attempted_taken now view entry fetcher taken alike = asking_taken now view entry fetcher taken (peer_of fetcher.config fetcher.blocked view entry) alike

-- the next attempt of a view that was taken out
pub attempting_is : (now view : ℕ) (entry : Entry) (fetcher : Machine) (taken : List (ℕ × Entry)) → entry_at fetcher.views view ≡ Some entry → PutsAlike view taken fetcher.views
    → attempting now view fetcher ≡ attempted now view entry (record fetcher { views = taken })
unfolding attempting attempted_at
attempting_is now view entry fetcher taken at alike = rw at (sym (attempted_taken now view entry fetcher taken alike))

-- a silent peer's view that was taken out
pub expiring_asked : (now view : ℕ) (entry : Entry) (fetcher : Machine) (taken : List (ℕ × Entry)) (id peer deadline : ℕ) → entry_at fetcher.views view ≡ Some entry
    → entry.state ≡ Asked id peer deadline → PutsAlike view taken fetcher.views
    → expiring now view fetcher ≡ quiet (retrying now view entry (record fetcher { views = taken }))
unfolding expiring expired_at expired_as
expiring_asked now view entry fetcher taken id peer deadline at is alike = rw at (ap (expired_as now view entry fetcher) is ∙ ap quiet (sym (retrying_taken now view entry fetcher taken alike)))

-- a waiting view that was taken out
pub expiring_waiting : (now view : ℕ) (entry : Entry) (fetcher : Machine) (taken : List (ℕ × Entry)) (until : Option ℕ) → entry_at fetcher.views view ≡ Some entry
    → entry.state ≡ Waiting until → PutsAlike view taken fetcher.views
    → expiring now view fetcher ≡ attempted now view entry (record fetcher { views = taken })
unfolding expiring expired_at expired_as
expiring_waiting now view entry fetcher taken until at is alike = rw at (ap (expired_as now view entry fetcher) is ∙ sym (attempted_taken now view entry fetcher taken alike))

-- where no view is there is nothing to take away
pub without_absent : (v : ℕ) (es : List (ℕ × Entry)) → entry_at es v ≡ None → without_entry v es ≡ es
unfolding entry_at without_entry
without_absent v [] h = refl
without_absent v (x ∷ es) h =
    let rest : entry_at es v ≡ None → without_entry v es ≡ es = without_absent v es in
    elim (is_at (nat_cmp v) x.0) as (λ b. is_at (nat_cmp v) x.0 ≡ b → without_entry v (x ∷ es) ≡ x ∷ es) [
      | true ↦ λ at. let none : Some x.1 ≡ None = grind (arith, common_steps) in cc
      | false ↦ λ apart. let later : entry_at es v ≡ None = grind (arith, common_steps) in
          let is = rest later in grind (arith, common_steps)
    ] refl

-- a verdict on a view that was taken out
pub judged_taken : (verdict : Option Outcome) (now view : ℕ) (entry : Entry) (fetcher : Machine) (taken : List (ℕ × Entry))
    → taken ≡ without_entry view fetcher.views → entry_at taken view ≡ None → PutsAlike view taken fetcher.views
    → judged_as verdict now view entry (record fetcher { views = taken }) ≡ judged_as verdict now view entry fetcher
unfolding judged_as asked_on
judged_taken verdict now view entry fetcher taken is gone alike =
    let forgotten : without_entry view taken ≡ without_entry view fetcher.views = without_absent view taken gone ∙ is in
    let again = attempted_taken now view (without (holds_ask (delivered_of entry.state)) entry) fetcher taken alike in
    let waits = retrying_taken now view entry fetcher taken alike in
    grind (arith, common_steps, forgotten, again, waits)

-- a verdict that the asks are not done with
pub judged_open : (verdict : Option Outcome) (now view : ℕ) (entry : Entry) (fetcher : Machine) → is_done verdict ≡ false
    → judged_as verdict now view entry fetcher ≡ blocked_by verdict entry.state (retrying now view entry fetcher)
unfolding judged_as
judged_open verdict now view entry fetcher open_still = rw open_still refl

-- who is blocked is nothing to a view that waits
pub blocked_waits : (verdict : Option Outcome) (now view : ℕ) (entry : Entry) (fetcher : Machine)
    → retrying now view entry (blocked_by verdict entry.state fetcher).fetcher ≡ (blocked_by verdict entry.state (retrying now view entry fetcher)).fetcher
unfolding retrying blocking
blocked_waits verdict now view entry fetcher = by verdict entry.state
  where
    by : (verdict : Option Outcome) (state : State)
        → retrying now view entry (blocked_by verdict state fetcher).fetcher ≡ (blocked_by verdict state (retrying now view entry fetcher)).fetcher
    by None state = refl
    by (Some outcome.Ignored) state = refl
    by (Some outcome.Unresolved) state = refl
    by (Some (outcome.Resolved resolution)) state = refl
    by (Some outcome.Invalid) (Waiting until) = refl
    by (Some outcome.Invalid) (Asked id peer deadline) = refl
    by (Some outcome.Invalid) (Judged id peer delivered) = refl

-- and what is wanted of it is the same
pub blocked_outs : (verdict : Option Outcome) (now view : ℕ) (entry : Entry) (fetcher : Machine)
    → (blocked_by verdict entry.state fetcher).outs ≡ (blocked_by verdict entry.state (retrying now view entry fetcher)).outs
blocked_outs verdict now view entry fetcher = by verdict entry.state
  where
    by : (verdict : Option Outcome) (state : State) → (blocked_by verdict state fetcher).outs ≡ (blocked_by verdict state (retrying now view entry fetcher)).outs
    by None state = refl
    by (Some outcome.Ignored) state = refl
    by (Some outcome.Unresolved) state = refl
    by (Some (outcome.Resolved resolution)) state = refl
    by (Some outcome.Invalid) (Waiting until) = refl
    by (Some outcome.Invalid) (Asked id peer deadline) = refl
    by (Some outcome.Invalid) (Judged id peer delivered) = refl

-- the views are where they were
pub blocked_views : (verdict : Option Outcome) (state : State) (fetcher : Machine) → (blocked_by verdict state fetcher).fetcher.views ≡ fetcher.views
unfolding blocking
blocked_views None state fetcher = refl
blocked_views (Some outcome.Ignored) state fetcher = refl
blocked_views (Some outcome.Unresolved) state fetcher = refl
blocked_views (Some (outcome.Resolved resolution)) state fetcher = refl
blocked_views (Some outcome.Invalid) (Waiting until) fetcher = refl
blocked_views (Some outcome.Invalid) (Asked id peer deadline) fetcher = refl
blocked_views (Some outcome.Invalid) (Judged id peer delivered) fetcher = refl

-- and so is the number of the next request
pub blocked_ids : (verdict : Option Outcome) (state : State) (fetcher : Machine) → (blocked_by verdict state fetcher).fetcher.next_id ≡ fetcher.next_id
unfolding blocking
blocked_ids None state fetcher = refl
blocked_ids (Some outcome.Ignored) state fetcher = refl
blocked_ids (Some outcome.Unresolved) state fetcher = refl
blocked_ids (Some (outcome.Resolved resolution)) state fetcher = refl
blocked_ids (Some outcome.Invalid) (Waiting until) fetcher = refl
blocked_ids (Some outcome.Invalid) (Asked id peer deadline) fetcher = refl
blocked_ids (Some outcome.Invalid) (Judged id peer delivered) fetcher = refl

-- an attempt draws at most one number
pub asking_ids : (now view : ℕ) (entry : Entry) (fetcher : Machine) (peer : Option ℕ) → (asking now view entry fetcher peer).fetcher.next_id ≤ fetcher.next_id + 1
unfolding asking retrying
asking_ids now view entry fetcher None = grind (arith, common_steps)
asking_ids now view entry fetcher (Some peer) = omega arith

pub attempted_ids : (now view : ℕ) (entry : Entry) (fetcher : Machine) → (attempted now view entry fetcher).fetcher.next_id ≤ fetcher.next_id + 1
unfolding attempted
attempted_ids now view entry fetcher = asking_ids now view entry fetcher (peer_of fetcher.config fetcher.blocked view entry)

pub attempted_at_ids : (now view : ℕ) (fetcher : Machine) (entry : Option Entry) → (attempted_at now view fetcher entry).fetcher.next_id ≤ fetcher.next_id + 1
unfolding attempted_at
attempted_at_ids now view fetcher None = omega arith
attempted_at_ids now view fetcher (Some entry) = attempted_ids now view entry fetcher

pub attempting_ids : (now view : ℕ) (fetcher : Machine) → (attempting now view fetcher).fetcher.next_id ≤ fetcher.next_id + 1
unfolding attempting
attempting_ids now view fetcher = attempted_at_ids now view fetcher (entry_at fetcher.views view)

pub expired_as_ids : (now view : ℕ) (entry : Entry) (fetcher : Machine) (state : State) → (expired_as now view entry fetcher state).fetcher.next_id ≤ fetcher.next_id + 1
unfolding expired_as retrying
expired_as_ids now view entry fetcher (Waiting until) = attempted_ids now view entry fetcher
expired_as_ids now view entry fetcher (Asked id peer deadline) = omega arith
expired_as_ids now view entry fetcher (Judged id peer delivered) = omega arith

pub expired_at_ids : (now view : ℕ) (fetcher : Machine) (entry : Option Entry) → (expired_at now view fetcher entry).fetcher.next_id ≤ fetcher.next_id + 1
unfolding expired_at
expired_at_ids now view fetcher None = omega arith
expired_at_ids now view fetcher (Some entry) = expired_as_ids now view entry fetcher entry.state

pub expiring_ids : (now view : ℕ) (fetcher : Machine) → (expiring now view fetcher).fetcher.next_id ≤ fetcher.next_id + 1
unfolding expiring
expiring_ids now view fetcher = expired_at_ids now view fetcher (entry_at fetcher.views view)

-- a peer's error of a view that was taken out
pub refused_is : (now view : ℕ) (entry : Entry) (fetcher : Machine) (taken : List (ℕ × Entry)) (o : Option ℕ) → o ≡ Some view → entry_at fetcher.views view ≡ Some entry
    → PutsAlike view taken fetcher.views → refused now fetcher o ≡ retrying now view entry (record fetcher { views = taken })
unfolding refused retried
refused_is now view entry fetcher taken o opened at alike = rw (opened, at) (sym (retrying_taken now view entry fetcher taken alike))

-- each number was drawn, where an entry is put back whose number was drawn
pub drawn_put : (next_id view : ℕ) (entry : Entry) (views taken after : List (ℕ × Entry))
    → ((q : ℕ) → entry_at taken q ≡ (if view == q then None else entry_at views q)) → ((q : ℕ) → entry_at after q ≡ (if view == q then Some entry else entry_at taken q))
    → ((q : ℕ) → IsSoundAt next_id (entry_at views q)) → IsSoundEntry next_id entry → (q : ℕ) → IsSoundAt next_id (entry_at after q)
drawn_put next_id view entry views taken after left put drawn sound q =
    elim (view == q) as (λ b. (view == q) ≡ b → IsSoundAt next_id (entry_at after q)) [
      | true ↦ λ here. let is : entry_at after q ≡ Some entry = put q ∙ rw here refl in rw is sound
      | false ↦ λ apart. let is : entry_at after q ≡ entry_at views q = put q ∙ rw apart (left q ∙ rw apart refl) in rw is (drawn q)
    ] refl

-- a verdict on the view that is judged
pub judged_is : (id : ℕ) (verdict : Option Outcome) (now view : ℕ) (entry : Entry) (fetcher : Machine) (taken : List (ℕ × Entry)) → judged_view id fetcher.views ≡ Some view → entry_at fetcher.views view ≡ Some entry
    → taken ≡ without_entry view fetcher.views → entry_at taken view ≡ None → PutsAlike view taken fetcher.views
    → judged id verdict now fetcher ≡ judged_as verdict now view entry (record fetcher { views = taken })
unfolding judged judged_at judged_entry
judged_is id verdict now view entry fetcher taken opened at is gone alike = rw (opened, at) (sym (judged_taken verdict now view entry fetcher taken is gone alike))
