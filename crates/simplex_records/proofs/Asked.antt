-- The requests of one event more.
use Rattle.std.proofs.Common.{append_assoc, ◌≡◌, ◌≢◌, ◌<◌, ◌≤◌, ℕ, List, [], ◌∷◌, ◌++◌, Bool, true, false, arith, refl, sym, subst, length, set, ◌+◌, ◌-◌, suc, zero, ap, ◌∙◌, if◌then◌else◌}
use Rattle.std.specs.Prelude.{◌==◌, ◌&&◌, nat_lt, nat_le, Option, Some, None}
use Rattle.std.specs.List.{slice_get}
use Rattle.std.specs.Option.{option_and_then}
use Rattle.std.specs.Ordering.{nat_cmp}
use Rattle.std.specs.BTreeMap as tree
use Rattle.std.proofs.lemmas.Grind.{common_steps}
use Rattle.std.proofs.lemmas.Option.{slice_get_past, slice_get-get_or}
use Rattle.std.proofs.lemmas.List.FromFn.{length-map-range_with_len, get_or-map-range_with_len, map-range_with_len_more}
use Rattle.std.proofs.lemmas.List.{length-append, length_push}
use Rattle.simplex_transcript.specs.declared.node.Node.{Node}
use Rattle.simplex_transcript.specs.declared.node.Ref.{Ref}
use Rattle.model_run.specs.Life.{Noted, is_of}
use Rattle.model_run.specs.Requests.{is_start, asked_since, request_number, request_place}
use Rattle.simplex_records.specs.Seats.{node_at}
use Rattle.simplex_records.specs.declared.requests.Requests.{Requests}
use Rattle.simplex_records.specs.declared.requests.Span.{Span}
use Rattle.simplex_records.specs.Requests.{number_in, number_in_span, number_from, places_of, RequestsStand, RequestsRest}
use Rattle.simplex_records.specs.Events.{IsOf}
use Rattle.simplex_records.specs.Stands.{DesksStand}
use Rattle.simplex_records.proofs.Lists.{slice_get-set, slice_get-set_other, slice_get-front, slice_get-past_front}

-- ---- lists of places

place_within : (event count k : ℕ) → k < count → slice_get (places_of event count) k ≡ Some (record { event = event; place = k })
place_within event count k lt =
    slice_get-get_or (places_of event count) k (record { event = event; place = 0 }) (rw (length-map-range_with_len {X = Ref} (λ (place : ℕ). record { event = event; place = place }) 0 count) lt)
    ∙ ap (λ at. Some at) (get_or-map-range_with_len {X = Ref} (λ (place : ℕ). record { event = event; place = place }) 0 count k k (record { event = event; place = 0 }) lt (omega arith))

place_past : (event count k : ℕ) → count ≤ k → slice_get (places_of event count) k ≡ None
place_past event count k le =
    slice_get_past (places_of event count) k (rw (length-map-range_with_len {X = Ref} (λ (place : ℕ). record { event = event; place = place }) 0 count) le)

-- ---- one event more, its tests as they come out

place_by : (places : List Ref) (event count number : ℕ) (low high : Bool) → nat_le (length places) number ≡ low → nat_lt number (length places + count) ≡ high
    → slice_get (places ++ places_of event count) number
    ≡ (if low && high then Some (record { event = event; place = number - length places }) else slice_get places number)
place_by places event count number false high l h = slice_get-front places (places_of event count) number (grind (arith, common_steps, l))
place_by places event count number true true l h =
    slice_get-past_front places (places_of event count) number (grind (arith, common_steps, l))
    ∙ place_within event count (number - length places) (grind (arith, common_steps, l, h))
place_by places event count number true false l h =
    slice_get-past_front places (places_of event count) number (grind (arith, common_steps, l))
    ∙ place_past event count (number - length places) (grind (arith, common_steps, l, h))
    ∙ sym (slice_get_past places number (grind (arith, common_steps, l)))

pub place-push : (places : List Ref) (event count number : ℕ)
    → slice_get (places ++ places_of event count) number
    ≡ (if nat_le (length places) number && nat_lt number (length places + count) then Some (record { event = event; place = number - length places }) else slice_get places number)
place-push places event count number =
    place_by places event count number (nat_le (length places) number) (nat_lt number (length places + count)) refl refl

-- one place more
pub places-more : (first items : List Ref) (event place : ℕ) → items ≡ first ++ places_of event place
    → items ++ record { event = event; place = place } ∷ [] ≡ first ++ places_of event (place + 1)
places-more first items event place is =
    ap (λ (all : List Ref). all ++ record { event = event; place = place } ∷ []) is
    ∙ append_assoc first (places_of event place) (record { event = event; place = place } ∷ [])
    ∙ ap (λ (all : List Ref). first ++ all) (sym (map-range_with_len_more {X = Ref} (λ (k : ℕ). record { event = event; place = k }) 0 place place (omega arith)))

pub length-places : (places : List Ref) (event count : ℕ) → length (places ++ places_of event count) ≡ length places + count
length-places places event count =
    length-append places (places_of event count)
    ∙ ap (λ n. length places + n) (length-map-range_with_len {X = Ref} (λ (place : ℕ). record { event = event; place = place }) 0 count)

span_at : (here some : Bool) (first end count place : ℕ) (found rest : Option Span) → some ≡ true → end ≡ first + count
    → found ≡ (if here then Some (record { first = first; end = end }) else rest)
    → option_and_then (number_in_span place) found ≡ (if some && here then number_from first count place else option_and_then (number_in_span place) rest)
span_at here false first end count place found rest s e is = absurd (cc)
span_at true true first end count place found rest s e is =
    ap (λ span. option_and_then (number_in_span place) span) is ∙ ap (λ n. number_from first n place) (omega (arith, e))
span_at false true first end count place found rest s e is = ap (λ span. option_and_then (number_in_span place) span) is

-- the numbers of one event more
pub numbers-put : (old new : Requests) (event count first end : ℕ) → count ≢ 0 → first ≡ length old.places.items → end ≡ length old.places.items + count
    → ((q : ℕ) → tree.get nat_cmp new.spans q ≡ (if event == q then Some (record { first = first; end = end }) else tree.get nat_cmp old.spans q))
    → (at : Ref) → number_in new at
    ≡ (if nat_lt 0 count && event == at.event then number_from (length old.places.items) count at.place else number_in old at)
unfolding number_in
numbers-put old new event count first end some starts ends puts at =
    span_at (event == at.event) (nat_lt 0 count) first end count at.place _ _ (grind (arith, common_steps)) (omega arith) (puts at.event)
    ∙ ap (λ n. if nat_lt 0 count && event == at.event then number_from n count at.place else option_and_then (number_in_span at.place) (tree.get nat_cmp old.spans at.event)) starts

own_count : (mine starts : Bool) (asked since first : ℕ) → mine ≡ true → first ≡ (if starts then 0 else since)
    → first + asked ≡ (if mine then (if starts then asked else asked + since) else since)
own_count false starts asked since first e is = absurd (cc)
own_count true true asked since first e is = omega (arith, is)
own_count true false asked since first e is = omega (arith, is)

own_number : (here mine starts some fits : Bool) (first asked place since : ℕ) (rest : Option ℕ) → mine ≡ true → first ≡ (if starts then 0 else since)
    → nat_lt 0 asked ≡ some → nat_lt place asked ≡ fits → (here ≡ true → rest ≡ None)
    → (if some && here then (if fits then Some (first + place) else None) else (if starts then None else rest))
    ≡ (if here then (if mine && fits then Some ((if starts then 0 else since) + place) else None) else if mine && starts then None else rest)
own_number here false starts some fits first asked place since rest e is s f ahead = absurd (cc)
own_number true true starts true true first asked place since rest e is s f ahead = ap (λ n. Some (n + place)) is
own_number true true starts true false first asked place since rest e is s f ahead = refl
own_number true true starts false true first asked place since rest e is s f ahead = absurd (grind (arith, common_steps, s, f))
own_number true true true false false first asked place since rest e is s f ahead = refl
own_number true true false false false first asked place since rest e is s f ahead = ahead refl
own_number false true starts true fits first asked place since rest e is s f ahead = refl
own_number false true starts false fits first asked place since rest e is s f ahead = refl

own_place : (mine starts : Bool) (first since asked number event : ℕ) (rest : Option Ref) → mine ≡ true → first ≡ (if starts then 0 else since)
    → (if nat_le first number && nat_lt number (first + asked) then Some (record { event = event; place = number - first }) else (if starts then None else rest))
    ≡ (if mine && nat_le (if starts then 0 else since) number && nat_lt number ((if starts then 0 else since) + asked)
    then Some (record { event = event; place = number - (if starts then 0 else since) }) else if mine && starts then None else rest)
own_place false starts first since asked number event rest e is = absurd (cc)
own_place true starts first since asked number event rest e is =
    ap (λ (f : ℕ). (if nat_le f number && nat_lt number (f + asked) then Some (record { event = event; place = number - f }) else (if starts then None else rest))) is

blank_count : (mine starts : Bool) (asked since : ℕ) → starts ≡ false → asked ≡ 0 → since ≡ (if mine then (if starts then asked else asked + since) else since)
blank_count mine true asked since e none = absurd (cc)
blank_count true false asked since e none = omega (arith, none)
blank_count false false asked since e none = refl

blank_number : (here mine starts fits : Bool) (asked place number : ℕ) (rest : Option ℕ) → starts ≡ false → asked ≡ 0 → nat_lt place asked ≡ fits → (here ≡ true → rest ≡ None)
    → rest ≡ (if here then (if mine && fits then Some number else None) else if mine && starts then None else rest)
blank_number here mine true fits asked place number rest e none f ahead = absurd (cc)
blank_number here mine false true asked place number rest e none f ahead = absurd (grind (arith, common_steps, none, f))
blank_number true true false false asked place number rest e none f ahead = ahead refl
blank_number true false false false asked place number rest e none f ahead = ahead refl
blank_number false true false false asked place number rest e none f ahead = refl
blank_number false false false false asked place number rest e none f ahead = refl

blank_place : (mine starts low high : Bool) (first number asked : ℕ) (at : Ref) (rest : Option Ref) → starts ≡ false → asked ≡ 0
    → nat_le first number ≡ low → nat_lt number (first + asked) ≡ high
    → rest ≡ (if mine && low && high then Some at else if mine && starts then None else rest)
blank_place mine true low high first number asked at rest e none l h = absurd (cc)
blank_place mine false true true first number asked at rest e none l h = absurd (grind (arith, common_steps, none, l, h))
blank_place true false true false first number asked at rest e none l h = refl
blank_place true false false high first number asked at rest e none l h = refl
blank_place false false true false first number asked at rest e none l h = refl
blank_place false false false high first number asked at rest e none l h = refl

other_count : (mine starts : Bool) (asked since : ℕ) → mine ≡ false → since ≡ (if mine then (if starts then asked else asked + since) else since)
other_count true starts asked since e = absurd (cc)
other_count false starts asked since e = refl

other_number : (here mine starts fits : Bool) (number : ℕ) (rest : Option ℕ) → mine ≡ false → (here ≡ true → rest ≡ None)
    → rest ≡ (if here then (if mine && fits then Some number else None) else if mine && starts then None else rest)
other_number here true starts fits number rest e ahead = absurd (cc)
other_number true false starts fits number rest e ahead = ahead refl
other_number false false starts fits number rest e ahead = refl

other_place : (mine starts low high : Bool) (at : Ref) (rest : Option Ref) → mine ≡ false
    → rest ≡ (if mine && low && high then Some at else if mine && starts then None else rest)
other_place true starts low high at rest e = absurd (cc)
other_place false starts low high at rest e = refl

-- ---- events to come have no requests yet

ahead_at : (here mine starts : Bool) (found rest : Option ℕ) → here ≡ false → rest ≡ None
    → (if here then found else if mine && starts then None else rest) ≡ None
ahead_at true mine starts found rest e none = absurd (cc)
ahead_at false true true found rest e none = refl
ahead_at false true false found rest e none = none
ahead_at false false starts found rest e none = none

apart : (n event : ℕ) → n + 1 < event → (n + 1 == event) ≡ false
apart n event lt = grind (arith, common_steps)

pub none-ahead : (before : List Noted) (node : Node) (at : Ref) → length before < at.event → request_number before node at ≡ None
unfolding request_number
none-ahead [] node at lt = refl
none-ahead (noted ∷ before) node at lt =
    ahead_at (length before + 1 == at.event) (is_of node noted.event) (is_start noted.event) _ (request_number before node at)
    (apart (length before) at.event (omega (arith, lt))) (none-ahead before node at (omega (arith, lt)))

next : (n event : ℕ) → (n + 1 == event) ≡ true → n < event
next n event e = grind (arith, common_steps)

none-next : (before : List Noted) (node : Node) (at : Ref) → (length before + 1 == at.event) ≡ true → request_number before node at ≡ None
none-next before node at e = none-ahead before node at (next (length before) at.event e)

-- ---- one desk

-- an event of another node
pub desk-other : (desk : Requests) (before : List Noted) (noted : Noted) (node : Node) → is_of node noted.event ≡ false
    → RequestsStand desk before node → RequestsStand desk (noted ∷ before) node
unfolding asked_since request_number request_place
desk-other desk before noted node other stand =
    record {
      count = stand.count ∙ other_count (is_of node noted.event) (is_start noted.event) (length noted.entry.asked) (asked_since before node) other;
      number = λ at. stand.number at ∙ other_number (length before + 1 == at.event) (is_of node noted.event) (is_start noted.event) _ _ (request_number before node at) other (none-next before node at);
      place = λ number. stand.place number ∙ other_place (is_of node noted.event) (is_start noted.event) _ _ _ (request_place before node number) other;
    }

-- an event that asked nothing and is no start
pub desk-blank : (desk : Requests) (before : List Noted) (noted : Noted) (node : Node) → is_start noted.event ≡ false → length noted.entry.asked ≡ 0
    → RequestsStand desk before node → RequestsStand desk (noted ∷ before) node
unfolding asked_since request_number request_place
desk-blank desk before noted node start none stand =
    record {
      count = stand.count ∙ blank_count (is_of node noted.event) (is_start noted.event) (length noted.entry.asked) (asked_since before node) start none;
      number = λ at. stand.number at ∙ blank_number (length before + 1 == at.event) (is_of node noted.event) (is_start noted.event) _ (length noted.entry.asked) at.place _ (request_number before node at) start none refl (none-next before node at);
      place = λ number. stand.place number ∙ blank_place (is_of node noted.event) (is_start noted.event) _ _ _ number (length noted.entry.asked) _ (request_place before node number) start none refl refl;
    }

else_same : {A : Type 0} (b : Bool) (x y z : A) → y ≡ z → (if b then x else y) ≡ (if b then x else z)
else_same true x y z e = refl
else_same false x y z e = e

-- an event of the node
pub desk-own : (rested desk : Requests) (before : List Noted) (noted : Noted) (node : Node) → is_of node noted.event ≡ true
    → RequestsRest rested (is_start noted.event) before node
    → desk.places.items ≡ rested.places.items ++ places_of (length before + 1) (length noted.entry.asked)
    → ((at : Ref) → number_in desk at
    ≡ (if nat_lt 0 (length noted.entry.asked) && length before + 1 == at.event
    then number_from (length rested.places.items) (length noted.entry.asked) at.place else number_in rested at))
    → RequestsStand desk (noted ∷ before) node
unfolding asked_since request_number request_place
desk-own rested desk before noted node mine rests places numbers =
    record {
      count = ap (λ ps. length ps) places
          ∙ length-places rested.places.items (length before + 1) (length noted.entry.asked)
          ∙ own_count (is_of node noted.event) (is_start noted.event) (length noted.entry.asked) (asked_since before node) (length rested.places.items) mine rests.count;
      number = λ at. numbers at
          ∙ else_same (nat_lt 0 (length noted.entry.asked) && length before + 1 == at.event) (number_from (length rested.places.items) (length noted.entry.asked) at.place) _ _ (rests.number at)
          ∙ own_number (length before + 1 == at.event) (is_of node noted.event) (is_start noted.event) _ _ (length rested.places.items) (length noted.entry.asked) at.place
          (asked_since before node) (request_number before node at) mine rests.count refl refl (none-next before node at);
      place = λ number. ap (λ ps. slice_get ps number) places
          ∙ place-push rested.places.items (length before + 1) (length noted.entry.asked) number
          ∙ else_same (nat_le (length rested.places.items) number && nat_lt number (length rested.places.items + length noted.entry.asked)) (Some (record { event = length before + 1; place = number - length rested.places.items })) _ _ (rests.place number)
          ∙ own_place (is_of node noted.event) (is_start noted.event) (length rested.places.items) (asked_since before node) (length noted.entry.asked) number (length before + 1)
          (request_place before node number) mine rests.count;
    }

-- behind a start nothing is left, and else all
pub rests-started : (desk : Requests) (before : List Noted) (node : Node) → desk.places.items ≡ [] → ((at : Ref) → number_in desk at ≡ None)
    → RequestsRest desk true before node
rests-started desk before node places numbers =
    record { count = rw places refl; number = numbers; place = λ number. rw places refl }

pub rests-kept : (desk : Requests) (before : List Noted) (node : Node) → RequestsStand desk before node → RequestsRest desk false before node
rests-kept desk before node stand = record { count = stand.count; number = stand.number; place = stand.place }

-- no request yet
pub desk-new : (desk : Requests) (node : Node) → desk.places.items ≡ [] → ((at : Ref) → number_in desk at ≡ None) → RequestsStand desk [] node
unfolding asked_since request_number request_place
desk-new desk node places numbers = record { count = rw places refl; number = numbers; place = λ number. rw places refl }

-- ---- all desks

desk_at : (desks : List Requests) (before : List Noted) (noted : Noted) (seat : ℕ) (starts : Bool) (desk : Requests) → IsOf noted.event seat starts
    → DesksStand desks before → RequestsStand desk (noted ∷ before) (node_at seat)
    → (at : ℕ) (other : Requests) → slice_get (set desks seat desk) at ≡ Some other → (b : Bool) → (seat == at) ≡ b
    → RequestsStand other (noted ∷ before) (node_at at)
unfolding DesksStand
desk_at desks before noted seat starts desk of stand here at other is true e =
    let same : seat ≡ at = grind (arith, common_steps) in
    let it : other ≡ desk = slice_get-set desks seat at desk other is same in
    subst (λ k. RequestsStand other (noted ∷ before) (node_at k)) same (rw it here)
desk_at desks before noted seat starts desk of stand here at other is false e =
    let apart : seat ≢ at = grind (arith, common_steps) in
    desk-other other before noted (node_at at) (of.of at ∙ e) (stand at other (sym (slice_get-set_other desks seat at desk apart) ∙ is))

pub desks-enter : (desks : List Requests) (before : List Noted) (noted : Noted) (seat : ℕ) (starts : Bool) (desk : Requests) → IsOf noted.event seat starts
    → DesksStand desks before → RequestsStand desk (noted ∷ before) (node_at seat) → DesksStand (set desks seat desk) (noted ∷ before)
unfolding DesksStand
desks-enter desks before noted seat starts desk of stand here =
    λ at other is. desk_at desks before noted seat starts desk of stand here at other is (seat == at) refl

pub desks-pass : (desks : List Requests) (before : List Noted) (noted : Noted) → is_start noted.event ≡ false → length noted.entry.asked ≡ 0
    → DesksStand desks before → DesksStand desks (noted ∷ before)
unfolding DesksStand
desks-pass desks before noted start none stand = λ at desk is. desk-blank desk before noted (node_at at) start none (stand at desk is)

new_push_at : (desks : List Requests) (desk : Requests) → ((at : ℕ) (d : Requests) → slice_get desks at ≡ Some d → (node : Node) → RequestsStand d [] node)
    → ((node : Node) → RequestsStand desk [] node) → (at : ℕ) (d : Requests) → slice_get (desks ++ desk ∷ []) at ≡ Some d → (node : Node) → RequestsStand d [] node
new_push_at [] desk all one zero d is = let e : d ≡ desk = cc in rw e one
new_push_at [] desk all one (suc at) d is = absurd (cc)
new_push_at (x ∷ desks) desk all one zero d is = all zero d is
new_push_at (x ∷ desks) desk all one (suc at) d is = new_push_at desks desk (λ k y e. all (suc k) y e) one at d is

-- desks without requests
unfoldable pub AreNew : List Requests → Type 0
AreNew desks = (at : ℕ) (desk : Requests) → slice_get desks at ≡ Some desk → (node : Node) → RequestsStand desk [] node

pub no-desks : AreNew []
unfolding AreNew
no-desks = λ at desk is node. absurd (cc)

pub desks-push : (desks : List Requests) (desk : Requests) → AreNew desks → desk.places.items ≡ [] → ((at : Ref) → number_in desk at ≡ None) → AreNew (desks ++ desk ∷ [])
unfolding AreNew
desks-push desks desk new places numbers = λ at d is node. new_push_at desks desk new (λ n. desk-new desk n places numbers) at d is node

-- one desk more without requests
pub desks-grown : (desks new : List Requests) (desk : Requests) (count : ℕ) → new ≡ desks ++ desk ∷ [] → (length desks ≡ count) × AreNew desks
    → desk.places.items ≡ [] → ((at : Ref) → number_in desk at ≡ None) → (length new ≡ count + 1) × AreNew new
desks-grown desks new desk count is all places numbers =
    (ap (λ ds. length ds) is ∙ length_push desks desk ∙ omega (arith, all.0), rw is (desks-push desks desk all.1 places numbers))

pub desks-new : (desks : List Requests) → AreNew desks → DesksStand desks []
unfolding AreNew DesksStand
desks-new desks new = λ at desk is. new at desk is (node_at at)

-- a desk that is read
pub desk-read : (desks : List Requests) (before : List Noted) (at : ℕ) (desk : Requests) → DesksStand desks before → slice_get desks at ≡ Some desk
    → RequestsStand desk before (node_at at)
unfolding DesksStand
desk-read desks before at desk stand is = stand at desk is
