-- Which other members are not blocked, by their place in rising order.
use Rattle.std.proofs.Common.{◌≡◌, ◌<◌, ◌≤◌, ◌+◌, ◌-◌, ◌==◌, ◌&&◌, ℕ, zero, suc, Bool, true, false, not, nat_lt, cond, length, refl, sym, ap, ◌∙◌, List, [], ◌∷◌, ◌++◌, Some, None, ◌⊎◌, inl, inr, arith}
use Rattle.std.specs.Prelude.{⊤, if◌then◌else◌, filter, slice_get}
use Rattle.std.proofs.lemmas.Grind.{common_steps}
use Rattle.std.proofs.lemmas.Bool.{cases_eq, cases_order}
use Rattle.std.proofs.lemmas.Bool.Decides.{nat_tests}
use Rattle.std.proofs.lemmas.List.Elements.{filter-append}
use Rattle.std.proofs.lemmas.Map.Keys.{sorted_head, sorted_tail}
use Rattle.std.specs.declared.cmp.Ordering.TheVariants.{Less}
use Rattle.std.specs.Ordering.{nat_cmp}
use Rattle.std.specs.List.{range_with_len, AllByRecursion}
use Rattle.std.specs.List.Sorted.{IsStrictlySortedBy}
use Rattle.model_resolver.specs.declared.config.FetchConfig.{FetchConfig}
use Rattle.model_resolver.specs.Asks.{holds_member}
use Rattle.model_resolver.specs.Fetcher.{unblocked, others_of}
use Rattle.simplex_fetch.specs.Peers.{other_at, behind}

-- whether it is another member, and not blocked
abbrev pub is_peer : (me : ℕ) (blocked : List ℕ) (member : ℕ) → Bool
is_peer me blocked member = not (member == me) && not (holds_member blocked member)

-- how many of these are below this number
pub count : (me : ℕ) (blocked : List ℕ) (m : ℕ) → ℕ
count me blocked zero = 0
count me blocked (suc m) = count me blocked m + (if is_peer me blocked m then 1 else 0)

-- those below this number, in rising order
abbrev peers : (me : ℕ) (blocked : List ℕ) (m : ℕ) → List ℕ
peers me blocked m = unblocked blocked (filter (λ q. not (q == me)) (range_with_len 0 m))

-- ---- places

range_more : (a n : ℕ) → range_with_len a (suc n) ≡ range_with_len a n ++ (a + n) ∷ []
range_more a zero = let same : a + 0 ≡ a = omega arith in rw same refl
range_more a (suc n) =
    let same : a + 1 + n ≡ a + suc n = omega arith in
    ap (λ l. a ∷ l) (range_more (a + 1) n ∙ ap (λ m. range_with_len (a + 1) n ++ m ∷ []) same)

one_peer : (me : ℕ) (blocked : List ℕ) (m : ℕ)
    → unblocked blocked (filter (λ q. not (q == me)) (m ∷ [])) ≡ (if is_peer me blocked m then m ∷ [] else [])
one_peer me blocked m = elim (m == me) as (λ b. unblocked blocked (cond (not b) (m ∷ []) []) ≡ (if not b && not (holds_member blocked m) then m ∷ [] else [])) [
  | true ↦ refl
  | false ↦ refl
]

peers_more : (me : ℕ) (blocked : List ℕ) (m : ℕ) → peers me blocked (suc m) ≡ peers me blocked m ++ (if is_peer me blocked m then m ∷ [] else [])
peers_more me blocked m =
    let same : 0 + m ≡ m = omega arith in
    ap (λ l. unblocked blocked (filter (λ q. not (q == me)) l)) (range_more 0 m ∙ ap (λ k. range_with_len 0 m ++ k ∷ []) same)
    ∙ ap (unblocked blocked) (filter-append (λ q. not (q == me)) (range_with_len 0 m) (m ∷ []))
    ∙ filter-append (λ q. not (holds_member blocked q)) (filter (λ q. not (q == me)) (range_with_len 0 m)) (filter (λ q. not (q == me)) (m ∷ []))
    ∙ ap (λ l. peers me blocked m ++ l) (one_peer me blocked m)

length_one : (b : Bool) (xs : List ℕ) (m : ℕ) → length (xs ++ (if b then m ∷ [] else [])) ≡ length xs + (if b then 1 else 0)
length_one true xs m = grind (arith, common_steps)
length_one false xs m = grind (arith, common_steps)

length_peers : (me : ℕ) (blocked : List ℕ) (m : ℕ) → length (peers me blocked m) ≡ count me blocked m
unfolding count
length_peers me blocked zero = refl
length_peers me blocked (suc m) =
    ap length (peers_more me blocked m) ∙ length_one (is_peer me blocked m) (peers me blocked m) m
    ∙ ap (λ k. k + (if is_peer me blocked m then 1 else 0)) (length_peers me blocked m)

-- what stands in a list stands in a longer one
get_front : (xs ys : List ℕ) (i x : ℕ) → slice_get xs i ≡ Some x → slice_get (xs ++ ys) i ≡ Some x
get_front [] ys i x h = cc
get_front (y ∷ xs) ys zero x h = h
get_front (y ∷ xs) ys (suc i) x h = get_front xs ys i x h

get_behind : (xs : List ℕ) (x : ℕ) → slice_get (xs ++ x ∷ []) (length xs) ≡ Some x
get_behind [] x = refl
get_behind (y ∷ xs) x = get_behind xs x

below_more : (m n : ℕ) → m < suc n → (m ≡ n) ⊎ (m < n)
below_more m n h = elim (cases_order m n) [
  | inl same ↦ inl same
  | inr (inl less) ↦ inr less
  | inr (inr more) ↦ absurd (omega arith)
]

-- each stands in the place of its count
at_peer : (me : ℕ) (blocked : List ℕ) (m n : ℕ) → m < n → is_peer me blocked m ≡ true → slice_get (peers me blocked n) (count me blocked m) ≡ Some m
at_peer me blocked m zero low is = absurd (omega arith)
at_peer me blocked m (suc n) low is = elim (below_more m n low) [
  | inl same ↦
      let last : peers me blocked (suc n) ≡ peers me blocked m ++ m ∷ [] =
      ap (peers me blocked) (ap suc (sym same)) ∙ peers_more me blocked m ∙ ap (λ b. peers me blocked m ++ (if b then m ∷ [] else [])) is in
      rw (last, ← length_peers me blocked m) (get_behind (peers me blocked m) m)
  | inr less ↦
      rw (peers_more me blocked n) (get_front (peers me blocked n) (if is_peer me blocked n then n ∷ [] else []) (count me blocked m) m (at_peer me blocked m n less is))
]

-- ---- counts

count_up : (me : ℕ) (blocked : List ℕ) (a b : ℕ) → a ≤ b → count me blocked a ≤ count me blocked b
unfolding count
count_up me blocked a zero h = let same : a ≡ 0 = omega arith in rw same (omega arith)
count_up me blocked a (suc b) h = elim (cases_order a (suc b)) [
  | inl same ↦ rw same (omega arith)
  | inr (inl less) ↦ let rest = count_up me blocked a b (omega arith) in omega (arith, rest)
  | inr (inr more) ↦ absurd (omega arith)
]

-- where nobody is blocked
count_none : (me m : ℕ) → count me [] m ≡ (if nat_lt me m then m - 1 else m)
unfolding count
count_none me zero = grind (arith, nat_tests)
count_none me (suc m) = let rest = count_none me m in grind (arith, nat_tests, rest)

-- one more that is blocked, and was not before
count_one : (me b : ℕ) (blocked : List ℕ) (m : ℕ) → (b == me) ≡ false → holds_member blocked b ≡ false
    → count me (b ∷ blocked) m + (if nat_lt b m then 1 else 0) ≡ count me blocked m
unfolding count
count_one me b blocked zero apart new = grind (arith, nat_tests)
count_one me b blocked (suc m) apart new =
    let rest = count_one me b blocked m apart new in
    elim (cases_eq b m) [
      | inl same ↦ let here : holds_member blocked m ≡ false = rw (← same) new in grind (arith, nat_tests, rest)
      | inr other ↦ grind (arith, nat_tests, rest)
    ]

-- this member among them changes nothing
count_me : (me b : ℕ) (blocked : List ℕ) (m : ℕ) → b ≡ me → count me (b ∷ blocked) m ≡ count me blocked m
unfolding count
count_me me b blocked zero same = refl
count_me me b blocked (suc m) same = let rest = count_me me b blocked m same in grind (arith, nat_tests, rest)

-- ---- blocked members in rising order

-- all are above this one
abbrev pub Above : ℕ → List ℕ → Type 0
Above v [] = ⊤
Above v (x ∷ xs) = (v < x) × Above v xs

above_from : (v : ℕ) (xs : List ℕ) → AllByRecursion (λ y. nat_cmp v y ≡ Less) xs → Above v xs
above_from v [] h = tt
above_from v (x ∷ xs) h = (let first : nat_cmp v x ≡ Less = h.0 in grind (arith, nat_tests), above_from v xs h.1)

above_head : (x : ℕ) (xs : List ℕ) → IsStrictlySortedBy nat_cmp (x ∷ xs) → Above x xs
above_head x xs s = above_from x xs (sorted_head nat_cmp x xs s)

above_lower : (v w : ℕ) (xs : List ℕ) → v ≤ w → Above w xs → Above v xs
above_lower v w [] low h = tt
above_lower v w (x ∷ xs) low h = (let first : w < x = h.0 in omega arith, above_lower v w xs low h.1)

holds_above : (v q : ℕ) (xs : List ℕ) → q ≤ v → Above v xs → holds_member xs q ≡ false
holds_above v q [] low h = refl
holds_above v q (x ∷ xs) low h =
    let first : v < x = h.0 in let rest = holds_above v q xs low h.1 in grind (arith, nat_tests, rest)

count_above : (me v m : ℕ) (xs : List ℕ) → m ≤ v → Above v xs → count me xs m ≡ count me [] m
unfolding count
count_above me v zero xs low h = refl
count_above me v (suc m) xs low h =
    let rest = count_above me v m xs (omega arith) h in
    let none = holds_above v m xs (omega arith) h in grind (arith, nat_tests, rest, none)

-- ---- passing over

-- the first member from this one on that is not blocked, where each that is blocked below it puts it one place further
unfoldable pub passed_over : (me peer : ℕ) (blocked : List ℕ) → ℕ
passed_over me peer [] = peer
passed_over me peer (b ∷ blocked) =
    if nat_lt peer b then peer else passed_over me (if b == me then peer else behind me peer) blocked

behind_up : (me peer : ℕ) → peer < behind me peer
behind_up me peer = grind (arith, nat_tests)

behind_apart : (me peer : ℕ) → (behind me peer == me) ≡ false
behind_apart me peer = grind (arith, nat_tests)

pub passed_up : (me peer : ℕ) (blocked : List ℕ) → peer ≤ passed_over me peer blocked
unfolding passed_over
passed_up me peer [] = omega arith
passed_up me peer (b ∷ blocked) =
    let stays = passed_up me peer blocked in
    let moves = passed_up me (behind me peer) blocked in
    let up = behind_up me peer in grind (arith, nat_tests, stays, moves, up)

-- the member is found: it may be asked, and stands in the place where this one stood
record Found (me peer : ℕ) (blocked : List ℕ) (found : ℕ) : Type 0 where
  may : is_peer me blocked found ≡ true
  place : count me blocked found ≡ count me [] peer

count_behind : (me peer : ℕ) → (peer == me) ≡ false → count me [] (behind me peer) ≡ count me [] peer + 1
count_behind me peer apart =
    let here = count_none me peer in let there = count_none me (behind me peer) in grind (arith, nat_tests, here, there)

found_at : (me peer : ℕ) (blocked : List ℕ) → (peer == me) ≡ false → Above peer blocked → Found me peer blocked peer
found_at me peer blocked apart high = record {
  may = let none = holds_above peer peer blocked (omega arith) high in grind (arith, nat_tests, none);
  place = count_above me peer peer blocked (omega arith) high;
}

-- one more is blocked below it: this member itself, or another
found_me : (me peer b : ℕ) (blocked : List ℕ) (found : ℕ) → b ≡ me → Found me peer blocked found → Found me peer (b ∷ blocked) found
found_me me peer b blocked found same f = record {
  may = let may = f.may in grind (arith, nat_tests, may);
  place = count_me me b blocked found same ∙ f.place;
}

found_more : (me peer b : ℕ) (blocked : List ℕ) (found : ℕ) → (peer == me) ≡ false → (b == me) ≡ false → b ≤ peer → Above b blocked
    → behind me peer ≤ found → Found me (behind me peer) blocked found → Found me peer (b ∷ blocked) found
found_more me peer b blocked found apart other low high up f =
    let moved = behind_up me peer in record {
      may = let may = f.may in grind (arith, nat_tests, may, moved);
      place =
          let one = count_one me b blocked found other (holds_above b b blocked (omega arith) high) in
          let next = count_behind me peer apart in
          let place = f.place in grind (arith, nat_tests, one, next, place, moved);
    }

passed_found : (me peer : ℕ) (blocked : List ℕ) → (peer == me) ≡ false → IsStrictlySortedBy nat_cmp blocked → Found me peer blocked (passed_over me peer blocked)
unfolding passed_over
passed_found me peer [] apart s = found_at me peer [] apart tt
passed_found me peer (b ∷ blocked) apart s =
    let high = above_head b blocked s in
    let rest = sorted_tail nat_cmp b blocked s in
    elim (nat_lt peer b) as (λ t. nat_lt peer b ≡ t → Found me peer (b ∷ blocked) (if t then peer else passed_over me (if b == me then peer else behind me peer) blocked)) [
      | true ↦ λ less. let below : peer < b = grind (arith, nat_tests) in
          found_at me peer (b ∷ blocked) apart (below, above_lower peer b blocked (omega arith) high)
      | false ↦ λ no. let low : b ≤ peer = grind (arith, nat_tests) in
          elim (b == me) as (λ t. (b == me) ≡ t → Found me peer (b ∷ blocked) (passed_over me (if t then peer else behind me peer) blocked)) [
            | true ↦ λ here. let same : b ≡ me = grind (arith, nat_tests) in
                found_me me peer b blocked _ same (passed_found me peer blocked apart rest)
            | false ↦ λ other.
                found_more me peer b blocked _ apart other low high (passed_up me (behind me peer) blocked)
                (passed_found me (behind me peer) blocked (behind_apart me peer) rest)
          ] refl
    ] refl

-- ---- what the calls give

start_apart : (me place : ℕ) → (other_at me place == me) ≡ false
start_apart me place = grind (arith, nat_tests)

start_count : (me place : ℕ) → count me [] (other_at me place) ≡ place
start_count me place = let here = count_none me (other_at me place) in grind (arith, nat_tests, here)

below_from_count : (me : ℕ) (blocked : List ℕ) (m n : ℕ) → count me blocked m < count me blocked n → m < n
below_from_count me blocked m n h = elim (cases_order m n) [
  | inl same ↦ let up = ap (count me blocked) same in absurd (omega arith)
  | inr (inl less) ↦ less
  | inr (inr more) ↦ let up = count_up me blocked n m (omega arith) in absurd (omega arith)
]

module _ (config : FetchConfig) (blocked : List ℕ) (place : ℕ) (rises : IsStrictlySortedBy nat_cmp blocked) (within : place < length (unblocked blocked (others_of config))) where
  -- whom the walk over the blocked members finds
  pub found_below : passed_over config.me (other_at config.me place) blocked < config.n
  unfolding others_of
  found_below =
      let f = passed_found config.me (other_at config.me place) blocked (start_apart config.me place) rises in
      let there = f.place ∙ start_count config.me place in
      let all = length_peers config.me blocked config.n in
      below_from_count config.me blocked _ config.n (omega (arith, there, all, within))

  pub found_there : slice_get (unblocked blocked (others_of config)) place ≡ Some (passed_over config.me (other_at config.me place) blocked)
  unfolding others_of
  found_there =
      let f = passed_found config.me (other_at config.me place) blocked (start_apart config.me place) rises in
      let there = f.place ∙ start_count config.me place in
      ap (slice_get (unblocked blocked (others_of config))) (sym there) ∙ at_peer config.me blocked _ config.n found_below f.may

-- the walk stops where the next blocked member is above, or there is none
pub passed_stops : (me peer b : ℕ) (rest blocked : List ℕ) → blocked ≡ b ∷ rest → peer < b → passed_over me peer blocked ≡ peer
unfolding passed_over
passed_stops me peer b rest blocked is less = rw is (grind (arith, nat_tests))

pub passed_ends : (me peer : ℕ) (blocked : List ℕ) → blocked ≡ [] → passed_over me peer blocked ≡ peer
unfolding passed_over
passed_ends me peer blocked is = rw is refl

-- and else it goes on
pub passed_moves : (me peer b : ℕ) (rest blocked : List ℕ) → blocked ≡ b ∷ rest → b ≤ peer → (b ≡ me → ⊥) → behind me peer ≤ passed_over me peer blocked
unfolding passed_over
passed_moves me peer b rest blocked is low other =
    let up = passed_up me (behind me peer) rest in rw is (grind (arith, nat_tests, up))

-- how many of these are blocked, of the other members
unfoldable pub taken : (me n : ℕ) (blocked : List ℕ) → ℕ
taken me n [] = 0
taken me n (b ∷ blocked) = (if nat_lt b n && not (b == me) then 1 else 0) + taken me n blocked

pub taken_ends : (me n : ℕ) (blocked : List ℕ) → blocked ≡ [] → taken me n blocked ≡ 0
unfolding taken
taken_ends me n blocked is = rw is refl

taken_count : (me n : ℕ) (blocked : List ℕ) → IsStrictlySortedBy nat_cmp blocked → count me blocked n + taken me n blocked ≡ count me [] n
unfolding taken
taken_count me n [] s = omega arith
taken_count me n (b ∷ blocked) s =
    let rest = taken_count me n blocked (sorted_tail nat_cmp b blocked s) in
    let high = above_head b blocked s in
    elim (b == me) as (λ t. (b == me) ≡ t → count me (b ∷ blocked) n + ((if nat_lt b n && not t then 1 else 0) + taken me n blocked) ≡ count me [] n) [
      | true ↦ λ here. let same : b ≡ me = grind (arith, nat_tests) in
          let mine = count_me me b blocked n same in grind (arith, nat_tests, rest, mine)
      | false ↦ λ other.
          let one = count_one me b blocked n other (holds_above b b blocked (omega arith) high) in grind (arith, nat_tests, rest, one)
    ] refl

count_fewer : (me : ℕ) (blocked : List ℕ) (m : ℕ) → count me blocked m ≤ count me [] m
unfolding count
count_fewer me blocked zero = omega arith
count_fewer me blocked (suc m) = let rest = count_fewer me blocked m in grind (arith, nat_tests, rest)

-- they are fewer than the members
pub fewer_others : (config : FetchConfig) (blocked : List ℕ) → config.me < config.n → length (unblocked blocked (others_of config)) < config.n
unfolding others_of
fewer_others config blocked low =
    let all = length_peers config.me blocked config.n in
    let fewer = count_fewer config.me blocked config.n in
    let none = count_none config.me config.n in grind (arith, nat_tests, all, fewer, none)

-- those that are not blocked are the others less these
pub length_others : (config : FetchConfig) (blocked : List ℕ) → IsStrictlySortedBy nat_cmp blocked → config.me < config.n
    → length (unblocked blocked (others_of config)) + taken config.me config.n blocked ≡ config.n - 1
unfolding others_of
length_others config blocked rises low =
    let all = length_peers config.me blocked config.n in
    let of = taken_count config.me config.n blocked rises in
    let none = count_none config.me config.n in grind (arith, nat_tests, all, of, none)

-- ---- blocked members

-- what a filter leaves passes
filter_passes_at : (test : ℕ → Bool) (xs : List ℕ) (i x : ℕ) → slice_get (filter test xs) i ≡ Some x → test x ≡ true
filter_passes_at test [] i x h = cc
filter_passes_at test (y ∷ ys) i x h = elim (test y) as (λ b. test y ≡ b → slice_get (cond b (y ∷ filter test ys) (filter test ys)) i ≡ Some x → test x ≡ true) [
  | true ↦ λ here. first i here (λ k. filter_passes_at test ys k x)
  | false ↦ λ no. filter_passes_at test ys i x
] refl h
  where
    first : (i : ℕ) → test y ≡ true → ((k : ℕ) → slice_get (filter test ys) k ≡ Some x → test x ≡ true) → slice_get (y ∷ filter test ys) i ≡ Some x → test x ≡ true
    first zero here rest h = let same : y ≡ x = cc in rw (← same) here
    first (suc i) here rest h = rest i h

pub unblocked_passes : (blocked members : List ℕ) (i x : ℕ) → slice_get (unblocked blocked members) i ≡ Some x → holds_member blocked x ≡ false
unblocked_passes blocked members i x h =
    let passes = filter_passes_at (λ member. not (holds_member blocked member)) members i x h in grind (arith, passes)

-- a member alone has no others
pub alone : (config : FetchConfig) (blocked : List ℕ) (place peer : ℕ) → config.me < config.n → (config.n == 1) ≡ true
    → slice_get (unblocked blocked (others_of config)) place ≡ Some peer → ⊥
unfolding others_of
alone config blocked place peer low single h =
    let one : config.n ≡ 1 = grind (arith, nat_tests) in
    let none : config.me ≡ 0 = omega arith in
    let empty : peers config.me blocked config.n ≡ [] = rw (one, none) refl in
    let no : None ≡ Some peer = rw empty at h in cc
