-- The views that are asked for: a list in rising order of view, each view with its entry.
use Rattle.std.specs.Prelude.{ℕ, ◌==◌, nat_le, min, Bool, false, ◌&&◌, if◌then◌else◌, List, [], ◌∷◌, Option, Some, None}
use Rattle.std.specs.Ordering.{nat_cmp}
use Rattle.std.specs.Map.{lookup, remove_entry}
use Rattle.std.specs.BTreeMap.{is_at, insert_entry}
use Rattle.model_resolver.specs.declared.entry.State.{State}
use Rattle.model_resolver.specs.declared.entry.State.TheVariants.{Waiting, Asked, Judged}
use Rattle.model_resolver.specs.declared.entry.Entry.{Entry}

-- the entry of the view, if it is asked for
unfoldable pub entry_at : List (ℕ × Entry) → ℕ → Option Entry
entry_at views view = lookup (is_at (nat_cmp view)) views

-- the views, with this entry at this one
unfoldable pub with_entry : ℕ → Entry → List (ℕ × Entry) → List (ℕ × Entry)
with_entry view entry views = insert_entry nat_cmp views view entry

-- the views without this one
unfoldable pub without_entry : ℕ → List (ℕ × Entry) → List (ℕ × Entry)
without_entry view views = remove_entry (is_at (nat_cmp view)) views

-- the views that pass the test, in rising order
unfoldable pub views_where : (ℕ → Entry → Bool) → List (ℕ × Entry) → List ℕ
views_where test [] = []
views_where test (e ∷ es) = if test e.0 e.1 then e.0 ∷ views_where test es else views_where test es

-- the first view whose entry passes the test
unfoldable pub first_view : (Entry → Bool) → List (ℕ × Entry) → Option ℕ
first_view test [] = None
first_view test (e ∷ es) = if test e.1 then Some e.0 else first_view test es

-- when the view is looked at again, if a time is set
abbrev pub deadline_of : State → Option ℕ
deadline_of (Waiting until) = until
deadline_of (Asked id peer deadline) = Some deadline
deadline_of (Judged id peer delivered) = None

-- the number of the request that is open or judged
abbrev pub id_of : State → Option ℕ
id_of (Waiting until) = None
id_of (Asked id peer deadline) = Some id
id_of (Judged id peer delivered) = Some id

-- the lesser of two times, of which either may be missing
abbrev pub least_of : Option ℕ → Option ℕ → Option ℕ
least_of None b = b
least_of (Some a) None = Some a
least_of (Some a) (Some b) = Some (min a b)

-- the least time at which a view is looked at again
unfoldable pub next_deadline : List (ℕ × Entry) → Option ℕ
next_deadline [] = None
next_deadline (e ∷ es) = least_of (deadline_of e.1.state) (next_deadline es)

-- whether the request of this number is open with this peer
abbrev pub is_asked_as : ℕ → ℕ → State → Bool
is_asked_as id sender (Asked asked peer deadline) = asked == id && peer == sender
is_asked_as id sender _ = false

-- whether an answer to the request of this number is judged
abbrev pub is_judged_as : ℕ → State → Bool
is_judged_as id (Judged judged peer delivered) = judged == id
is_judged_as id _ = false

-- the view that has this request open with this peer
abbrev pub asked_view : ℕ → ℕ → List (ℕ × Entry) → Option ℕ
asked_view id sender views = first_view (λ entry. is_asked_as id sender entry.state) views

-- the view that is judged under this number
abbrev pub judged_view : ℕ → List (ℕ × Entry) → Option ℕ
judged_view id views = first_view (λ entry. is_judged_as id entry.state) views

-- whether there is a time, and now is not before it
abbrev pub is_reached : ℕ → Option ℕ → Bool
is_reached now None = false
is_reached now (Some deadline) = nat_le deadline now

-- whether a view is to be looked at by now
abbrev pub is_due : ℕ → Entry → Bool
is_due now entry = is_reached now (deadline_of entry.state)
