-- Behind entries of steps of other nodes, what is read of a node is what was read before them.
use Rattle.std.proofs.Common.{◌≡◌, ℕ, ◌+◌, ◌<◌, ◌≤◌, ◌==◌, ◌&&◌, nat_lt, Bool, true, false, List, [], ◌∷◌, ◌++◌, length, All, Some, None, refl, sym, ◌∙◌, arith, eqb-true, length-append, if◌then◌else◌}
use Rattle.std.specs.List.{slice_get}
use Rattle.std.specs.Option.{is_some}
use Rattle.std.proofs.lemmas.Bool.Decides.{nat_tests}
use Rattle.std.proofs.lemmas.List.Elements.{All-head, All-tail}
use Rattle.simplex_transcript.specs.declared.event.Event.{Event}
use Rattle.simplex_transcript.specs.declared.event.Event.TheVariants as events
use Rattle.simplex_transcript.specs.declared.node.Node.{Node}
use Rattle.simplex_transcript.specs.declared.node.Ref.{Ref}
use Rattle.model_run.specs.Setting.{Setting}
use Rattle.model_run.specs.Life.{Noted, clock_of, is_of, after, life_in}
use Rattle.model_run.specs.Requests.{is_start, first_number, request_number, request_place, packet_at}
use Rattle.model_run.specs.Groups.{node_stepped, IsBeside}

pub skip : {A : Type 0} (b : Bool) (x y : A) → b ≡ false → (if b then x else y) ≡ y
skip true x y e = cc
skip false x y e = refl

pub pick : {A : Type 0} (b : Bool) (x y : A) → b ≡ true → (if b then x else y) ≡ x
pick true x y e = refl
pick false x y e = cc

no_and : (a b : Bool) → a ≡ false → (a && b) ≡ false
no_and true b e = cc
no_and false b e = refl

-- ---- the clock

one_clock : (event : Event) (noted : Noted) (before : List Noted) → noted.event ≡ event → is_some (node_stepped event) ≡ true
    → clock_of (noted ∷ before) ≡ clock_of before
unfolding clock_of
one_clock (events.Deliver node at) noted before is h = rw is refl
one_clock (events.Step node source stop) noted before is h = rw is refl
one_clock (events.Answer node at answer) noted before is h = rw is refl
one_clock event noted before is h = cc

pub clock_beside : (node : Node) (made before : List Noted) → All (IsBeside node) made → clock_of (made ++ before) ≡ clock_of before
clock_beside node [] before all = refl
clock_beside node (x ∷ made) before all =
    one_clock x.event x (made ++ before) refl (All-head (IsBeside node) x made all).stepped ∙ clock_beside node made before (All-tail (IsBeside node) x made all)

-- ---- the life

pub life_beside : (setting : Setting) (node : Node) (made before : List Noted) → All (IsBeside node) made
    → life_in setting (made ++ before) node ≡ life_in setting before node
unfolding life_in
life_beside setting node [] before all = refl
life_beside setting node (x ∷ made) before all =
    skip (is_of node x.event) (after setting x.event x.did (life_in setting (made ++ before) node)) (life_in setting (made ++ before) node) (All-head (IsBeside node) x made all).other
    ∙ life_beside setting node made before (All-tail (IsBeside node) x made all)

-- ---- packets

pub packet_low : (before : List Noted) (at : Ref) → is_some (packet_at before at) ≡ true → at.event ≤ length before
unfolding packet_at
packet_low [] at e = cc
packet_low (x ∷ before) at e = by (length before + 1 == at.event) refl e (packet_low before at)
  where
    by : (b : Bool) → (length before + 1 == at.event) ≡ b → is_some (if b then slice_get x.entry.packets at.place else packet_at before at) ≡ true
        → (is_some (packet_at before at) ≡ true → at.event ≤ length before) → at.event ≤ length (x ∷ before)
    by true t h old = let e : length before + 1 ≡ at.event = eqb-true (length before + 1) at.event t in omega (arith, e)
    by false t h old = let l = old h in omega (arith, l)

pub packet_beside : (made before : List Noted) (at : Ref) → at.event ≤ length before → packet_at (made ++ before) at ≡ packet_at before at
unfolding packet_at
packet_beside [] before at low = refl
packet_beside (x ∷ made) before at low =
    skip (length (made ++ before) + 1 == at.event) (slice_get x.entry.packets at.place) (packet_at (made ++ before) at)
    (not_it (length (made ++ before)) at.event (omega (arith, low, length-append made before))) ∙ packet_beside made before at low
  where
    not_it : (n m : ℕ) → m ≤ n → (n + 1 == m) ≡ false
    not_it n m h = grind (arith, nat_tests)

-- ---- requests

no_request : (before : List Noted) (node : Node) (at : Ref) → length before < at.event → request_number before node at ≡ None
unfolding request_number
no_request [] node at high = refl
no_request (x ∷ before) node at high =
    skip (length before + 1 == at.event) _ (if is_of node x.event && is_start x.event then None else request_number before node at)
    (not_it (length before) at.event (omega (arith, high)))
    ∙ by (is_of node x.event && is_start x.event) (no_request before node at (omega (arith, high)))
  where
    not_it : (n m : ℕ) → n + 1 < m → (n + 1 == m) ≡ false
    not_it n m h = grind (arith, nat_tests)

    by : (b : Bool) → request_number before node at ≡ None → (if b then None else request_number before node at) ≡ None
    by true e = refl
    by false e = e

pub number_beside : (node : Node) (made before : List Noted) (at : Ref) → All (IsBeside node) made
    → request_number (made ++ before) node at ≡ request_number before node at
unfolding request_number
number_beside node [] before at all = refl
number_beside node (x ∷ made) before at all =
    by (length (made ++ before) + 1 == at.event) refl (number_beside node made before at (All-tail (IsBeside node) x made all))
  where
    other : is_of node x.event ≡ false
    other = (All-head (IsBeside node) x made all).other

    by : (b : Bool) → (length (made ++ before) + 1 == at.event) ≡ b → request_number (made ++ before) node at ≡ request_number before node at
        → (if b then (if is_of node x.event && nat_lt at.place (length x.entry.asked) then Some (first_number x (made ++ before) node + at.place) else None)
        else if is_of node x.event && is_start x.event then None else request_number (made ++ before) node at)
        ≡ request_number before node at
    by true t old =
        let e : length (made ++ before) + 1 ≡ at.event = eqb-true (length (made ++ before) + 1) at.event t in
        skip (is_of node x.event && nat_lt at.place (length x.entry.asked)) (Some (first_number x (made ++ before) node + at.place)) None
        (no_and (is_of node x.event) (nat_lt at.place (length x.entry.asked)) other)
        ∙ sym (no_request before node at (omega (arith, e, length-append made before)))
    by false t old =
        skip (is_of node x.event && is_start x.event) None (request_number (made ++ before) node at) (no_and (is_of node x.event) (is_start x.event) other) ∙ old

pub place_beside : (node : Node) (made before : List Noted) (number : ℕ) → All (IsBeside node) made
    → request_place (made ++ before) node number ≡ request_place before node number
unfolding request_place
place_beside node [] before number all = refl
place_beside node (x ∷ made) before number all =
    rw other (place_beside node made before number (All-tail (IsBeside node) x made all))
  where
    other : is_of node x.event ≡ false
    other = (All-head (IsBeside node) x made all).other
