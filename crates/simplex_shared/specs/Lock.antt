-- The rule of the lock, under which one history goes on. Word 0 is the length of the history, word 1 counts the tickets
-- that were drawn, and word 2 those that were served. The slot has the value, which keeps the history.
use Rattle.std.specs.Prelude.{◌≡◌, ◌≢◌, ℕ, ◌+◌, ◌-◌, ◌%◌, ◌^◌, ◌<◌, ◌≤◌, ◌⊎◌, List, [], ◌∷◌, length, true, false, Option, Some, None}
use mathlib.Core.Option.{Option as Maybe, some, none}
use lib.ListN.{get_elem?}
use Rattle.atomic_table.specs.Table.{State, Me, Step, rest}
use Rattle.simplex_shared.specs.declared.terms.Terms.{Terms}
use Rattle.simplex_shared.specs.declared.view.Stage.{Stage}
use Rattle.simplex_shared.specs.declared.view.Stage.TheVariants.{Idle, Waiting, Holding}
use Rattle.simplex_shared.specs.declared.view.View.{View}
use Rattle.simplex_shared.specs.Calls.{calls_by, StartsWith}

-- all the parts of the right to draw tickets: each pass has one, so fewer tickets wait than word 1 can tell apart
abbrev pub all_parts : ℕ
all_parts = 4294967296

-- how many tickets one at this stage has that are not served
abbrev pub waits_at : Stage → ℕ
waits_at Idle = 0
waits_at (Waiting ticket) = 1
waits_at Holding = 1

-- the ticket as word 2 shows it
abbrev pub ticket_of : Stage → ℕ
ticket_of Idle = 0
ticket_of (Waiting ticket) = ticket % 2 ^ 64
ticket_of Holding = 0

module _ {E : Type 0} where
  -- the first seat, which makes the passes
  abbrev pub maker : Terms → View E
  maker terms =
      record {
        makes = true;
        member = false;
        number = 0;
        terms = terms;
        parts = all_parts;
        stage = Idle;
        seen = [];
        told = [];
      }

  -- the maker, once it made a pass
  abbrev pub after_making : View E → View E
  after_making v = record v { number = v.number + 1; parts = v.parts - 1 }

  -- the maker, where the next pass has this number
  abbrev pub maker_at : Terms → ℕ → View E
  maker_at terms number = record (maker terms) { number = number; parts = all_parts - number }

  -- a pass that was just made
  abbrev pub newcomer : Terms → ℕ → View E
  newcomer terms number =
      record {
        makes = false;
        member = true;
        number = number;
        terms = terms;
        parts = 1;
        stage = Idle;
        seen = [];
        told = [];
      }

  -- a seat that takes along what another has seen
  abbrev pub bearer : List E → View E
  bearer seen =
      record {
        makes = false;
        member = false;
        number = 0;
        terms = record { capacity = 0; passes = 0 };
        parts = 0;
        stage = Idle;
        seen = seen;
        told = [];
      }

  -- the seat was told what another has seen
  abbrev pub informed : View E → View E → View E
  informed v w = record v { told = w.seen }

  abbrev pub at_stage : Stage → View E → View E
  at_stage stage v = record v { stage = stage }

  -- the value is out with the seat, which has seen the history so far
  abbrev pub holding : View E → List E → View E
  holding v log = record v { stage = Holding; seen = log; told = [] }

  -- a call was added, and the history is this
  abbrev pub added : View E → List E → View E
  added v log = record v { seen = log }

  -- the seat sees the history so far
  abbrev pub seeing : View E → List E → View E
  seeing v log = record v { seen = log; told = [] }

  -- what a stage says of the tickets drawn and served; `turn` says whose ticket it is
  abbrev pub Stands : List E → ℕ → ℕ → (ℕ → ℕ) → ℕ → ℕ → List E → Stage → Type 0
  Stands log drawn served turn id parts seen Idle = Unit {0}
  Stands log drawn served turn id parts seen (Waiting ticket) =
      (served ≤ ticket) × (ticket < drawn) × (turn ticket ≡ id) × (1 ≤ parts)
  Stands log drawn served turn id parts seen Holding =
      (served < drawn) × (turn served ≡ id) × (seen ≡ log) × (1 ≤ parts)

  abbrev pub total : (View E → ℕ) → List (View E) → ℕ
  total f [] = 0
  total f (v ∷ vs) = f v + total f vs

  abbrev pub parts_of : View E → ℕ
  parts_of v = v.parts

  -- how many tickets a seat has that are not served
  abbrev pub waits : View E → ℕ
  waits v = waits_at v.stage

  -- the value is out with no seat
  abbrev pub Quiet : List (View E) → Type 0
  Quiet views = (id : ℕ) (v : View E) → get_elem? views id ≡ some v → v.stage ≢ Holding

  -- the seat knows the terms of the value
  abbrev pub Belongs : View E → Type 0
  Belongs v = (v.makes ≡ true) ⊎ (v.member ≡ true)

module _ (D E : Type 0) where
  -- a seat: what it knows, and the slots that are out with it
  abbrev pub Sat : Type 0
  Sat = Me (Option D) (View E)

module _ {D E : Type 0} where
  -- a ticket was drawn
  abbrev pub Draws : Step (Option D) → Sat D E → ℕ → Sat D E → Type 0
  Draws step m n m' = (m'.1 ≡ m.1) × ((ticket : ℕ) × (ticket % 2 ^ 64 ≡ n) × (m'.0 ≡ at_stage (Waiting ticket) m.0))

  -- the value was given back, and the turn passed on
  abbrev pub Leaves : Step (Option D) → Sat D E → ℕ → Sat D E → Type 0
  Leaves step m n m' = (m'.1 ≡ rest m.1) × (m'.0 ≡ at_stage Idle m.0)

  -- the seat may draw a ticket
  abbrev pub MayDraw : Sat D E → Type 0
  MayDraw m = (m.0.stage ≡ Idle) × (1 ≤ m.0.parts) × (m.1 ≡ [])

  -- it is the pass with this number, between two calls
  abbrev pub IsReady : ℕ → Sat D E → Type 0
  IsReady number m = (m.0.member ≡ true) × (m.0.number ≡ number) × MayDraw m

  -- it waits with this ticket
  abbrev pub Waits : View E → ℕ → Sat D E → Type 0
  Waits v shown m = (ticket : ℕ) × (ticket % 2 ^ 64 ≡ shown) × (m ≡ (at_stage (Waiting ticket) v, []))

module _ {D E : Type 0} (log_of : D → List E) (capacity_of : D → ℕ) (caller : E → ℕ) (Legal : ℕ → List E → Type 0) where
  abbrev pub slot_log : Option D → List E
  slot_log (Some d) = log_of d
  slot_log None = []

  -- the history that the slot has that was taken last
  abbrev pub carried_log : List (ℕ × Option D) → List E
  carried_log [] = []
  carried_log (x ∷ xs) = slot_log x.1

  -- no call is by a pass with such a number or a greater one
  abbrev pub NoneFrom : ℕ → List E → Type 0
  NoneFrom number log = (other : ℕ) → number ≤ other → calls_by caller other log ≡ []

  -- what holds of the seat `id`; `seat` says which seat a pass has
  abbrev pub Fits : List E → ℕ → ℕ → (ℕ → ℕ) → (ℕ → ℕ) → ℕ → Terms → ℕ → View E → Type 0
  Fits log drawn served turn seat made terms id v =
      StartsWith log v.seen × StartsWith log v.told
      × (v.makes ≡ true → (v.number ≡ made) × (id ≡ 0) × (v.terms ≡ terms))
      × (v.member ≡ true → (seat v.number ≡ id) × (v.number < made)
      × (calls_by caller v.number log ≡ calls_by caller v.number v.seen) × (v.terms ≡ terms))
      × Stands log drawn served turn id v.parts v.seen v.stage

  -- the value is at home, with the history so far, or out with the seat whose turn it is
  abbrev pub Housed : List E → List (Maybe (Option D)) → List (View E) → ℕ → ℕ → Type 0
  Housed log homes views holder capacity =
      ((d : D) × (homes ≡ some (Some d) ∷ []) × ((log_of d ≡ log) × (capacity_of d ≡ capacity)) × Quiet views)
      ⊎ ((homes ≡ none ∷ []) × ((v : View E) × (get_elem? views holder ≡ some v) × (v.stage ≡ Holding)))

  -- There is one legal history. It has the calls of the passes and no others, and each ticket that waits has its own seat
  pub record Kept (s : State (Option D) (View E)) : Type 0 where
    pub terms : Terms
    pub log : List E
    pub drawn : ℕ
    pub served : ℕ
    pub turn : ℕ → ℕ
    pub seat : ℕ → ℕ
    pub made : ℕ
    pub bound : made ≤ terms.passes
    pub words : s.words ≡ length log ∷ drawn % 2 ^ 64 ∷ served % 2 ^ 64 ∷ []
    pub legal : Legal terms.capacity log
    pub housed : Housed log s.homes s.views (turn served) terms.capacity
    pub shares : total parts_of s.views ≡ all_parts
    pub waiting : served + total waits s.views ≡ drawn
    pub each : (id : ℕ) (v : View E) → get_elem? s.views id ≡ some v → Fits log drawn served turn seat made terms id v
    pub unmade : NoneFrom made log

  -- the history goes on from all that the seat has seen and was told of. It is legal, and of the seat's own calls it has
  -- those that the seat has seen
  abbrev pub GoesOn : View E → List E → Type 0
  GoesOn v log =
      StartsWith log v.seen × StartsWith log v.told
      × (v.member ≡ true → calls_by caller v.number log ≡ calls_by caller v.number v.seen)
      × (Belongs v → Legal v.terms.capacity log × NoneFrom v.terms.passes log)

  -- the value came out, with the history so far
  abbrev pub Opens : Sat D E → Sat D E → Type 0
  Opens m m' =
      (d : D) × (m'.1 ≡ (0, Some d) ∷ m.1) × (m'.0 ≡ holding m.0 (log_of d)) × GoesOn m.0 (log_of d)
      × (Belongs m.0 → capacity_of d ≡ m.0.terms.capacity)

  -- the seat looked whose turn it is: the value comes out where it is the seat's
  abbrev pub Looks : Step (Option D) → Sat D E → ℕ → Sat D E → Type 0
  Looks step m n m' = (n ≡ ticket_of m.0.stage → Opens m m') × (n ≢ ticket_of m.0.stage → m' ≡ m)

  -- the last call that the value's history has was added to the history
  abbrev pub Adds : Step (Option D) → Sat D E → ℕ → Sat D E → Type 0
  Adds step m n m' = (m'.1 ≡ m.1) × (m'.0 ≡ added m.0 (carried_log m.1))

  -- the seat saw the history so far, and found its length
  abbrev pub Sees : Step (Option D) → Sat D E → ℕ → Sat D E → Type 0
  Sees step m n m' =
      (m'.1 ≡ m.1) × ((log : List E) × (m'.0 ≡ seeing m.0 log) × GoesOn m.0 log × (length log ≡ n)
      × (m.0.stage ≡ Holding → log ≡ m.0.seen))

  -- the seat saw the history so far, which goes on from what it and another one have seen
  abbrev pub Hears : Sat D E → View E → ℕ → Sat D E → Type 0
  Hears m u n m' =
      (log : List E) × (m' ≡ (seeing m.0 log, m.1)) × GoesOn (informed m.0 u) log
      × (length log ≡ n) × (m.0.stage ≡ Holding → log ≡ m.0.seen)
