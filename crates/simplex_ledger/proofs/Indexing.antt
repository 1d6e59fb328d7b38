-- One more block.
use Rattle.std.proofs.Common.{◌≡◌, ℕ, ◌+◌, ◌<◌, ◌≤◌, ◌==◌, ◌||◌, ◌&&◌, ◌⊎◌, inl, inr, Bool, true, false, List, [], ◌∷◌, ◌++◌, length, Option, Some, None, Result, Ok, Err, is_ok, is_some, refl, sym, ap, subst, ◌∙◌, arith, if◌then◌else◌, eq-eqb, eqb-true, get_or, take, drop, length-take-le}
use Rattle.std.specs.List.{list_any, find}
use Rattle.std.specs.Option.{option_map, option_or}
use Rattle.std.specs.Str.{bytes_eq}
use Rattle.sha2.specs.Sha256.{sha256}
use Rattle.std.proofs.lemmas.List.{take-append-drop}
use Rattle.std.proofs.lemmas.List.Folds.{find-append}
use Rattle.std.proofs.lemmas.Slice.Eq.{bytes_eq-Decides}
use Rattle.simplex_wire.specs.declared.error.DecodeError.{DecodeError}
use Rattle.model_ledger.specs.declared.transfer.LedgerError.{LedgerError}
use Rattle.model_ledger.specs.declared.transfer.LedgerError.TheVariants.{Double, Memory}
use Rattle.model_ledger.specs.declared.transfer.Transfer.{Transfer}
use Rattle.model_ledger.specs.Blocks.{has_digest, decoded, decoded_or_none, is_sound, transfers_in, transfers_of}
use Rattle.model_ledger.specs.Doubles.{place_from, unless_first, double_from, double_of, double_fault}
use Rattle.model_ledger.specs.Failing.{FailsBy}
use Rattle.simplex_ledger.specs.declared.index.Found.{Found}
use Rattle.simplex_ledger.specs.declared.index.Index.{Index}
use Rattle.simplex_ledger.specs.Decoding.{transfers_if_any}
use Rattle.simplex_ledger.proofs.Transfers.{next_item, rest_item, nothing_left}
use Rattle.simplex_ledger.specs.Index.{found_at, place_of, is_good, transfers_or_none, transfers_found, IsIndexOf}

-- ---- places

pub place_push : (n : ℕ) (xs : List (List ℕ)) (b q : List ℕ) → place_from n (xs ++ b ∷ []) q ≡ option_or (place_from n xs q) (if has_digest q b then Some (n + length xs) else None)
unfolding place_from
place_push n [] b q = ap (λ (m : ℕ). if has_digest q b then Some m else None) (omega arith)
place_push n (x ∷ xs) b q = at (has_digest q x) (place_push (n + 1) xs b q)
  where
    many : n + 1 + length xs ≡ n + length (x ∷ xs)
    many = omega arith

    at : (h : Bool) → place_from (n + 1) (xs ++ b ∷ []) q ≡ option_or (place_from (n + 1) xs q) (if has_digest q b then Some (n + 1 + length xs) else None)
        → (if h then Some n else place_from (n + 1) (xs ++ b ∷ []) q) ≡ option_or (if h then Some n else place_from (n + 1) xs q) (if has_digest q b then Some (n + length (x ∷ xs)) else None)
    at true ih = refl
    at false ih = ih ∙ ap (λ (m : ℕ). option_or (place_from (n + 1) xs q) (if has_digest q b then Some m else None)) many

pub place_front : (n : ℕ) (xs ys : List (List ℕ)) (q : List ℕ) (p : ℕ) → place_from n xs q ≡ Some p → place_from n (xs ++ ys) q ≡ Some p
unfolding place_from
place_front n [] ys q p e = cc
place_front n (x ∷ xs) ys q p e = at (has_digest q x) (place_front (n + 1) xs ys q p) e
  where
    at : (h : Bool) → (place_from (n + 1) xs q ≡ Some p → place_from (n + 1) (xs ++ ys) q ≡ Some p)
        → (if h then Some n else place_from (n + 1) xs q) ≡ Some p → (if h then Some n else place_from (n + 1) (xs ++ ys) q) ≡ Some p
    at true ih k = k
    at false ih k = ih k

pub place_below : (n : ℕ) (xs : List (List ℕ)) (q : List ℕ) (p : ℕ) → place_from n xs q ≡ Some p → p < n + length xs
unfolding place_from
place_below n [] q p e = cc
place_below n (x ∷ xs) q p e = at (has_digest q x) (place_below (n + 1) xs q p) e
  where
    at : (h : Bool) → (place_from (n + 1) xs q ≡ Some p → p < n + 1 + length xs) → (if h then Some n else place_from (n + 1) xs q) ≡ Some p → p < n + length (x ∷ xs)
    at true ih k = (let same : n ≡ p = cc in omega (arith, same))
    at false ih k = (let low = ih k in omega (arith, low))

pub place_here : (n : ℕ) (xs : List (List ℕ)) (x : List ℕ) (ys : List (List ℕ)) (q : List ℕ) → place_from n xs q ≡ None → has_digest q x ≡ true → place_from n (xs ++ x ∷ ys) q ≡ Some (n + length xs)
unfolding place_from
place_here n [] x ys q e h = rw h (ap Some (omega arith))
place_here n (y ∷ xs) x ys q e h = at (has_digest q y) (λ k. place_here (n + 1) xs x ys q k h) e
  where
    many : n + 1 + length xs ≡ n + length (y ∷ xs)
    many = omega arith

    at : (b : Bool) → (place_from (n + 1) xs q ≡ None → place_from (n + 1) (xs ++ x ∷ ys) q ≡ Some (n + 1 + length xs))
        → (if b then Some n else place_from (n + 1) xs q) ≡ None → (if b then Some n else place_from (n + 1) (xs ++ x ∷ ys) q) ≡ Some (n + length (y ∷ xs))
    at true ih k = cc
    at false ih k = ih k ∙ ap Some many

find_none : (n : ℕ) (xs : List (List ℕ)) (q : List ℕ) → place_from n xs q ≡ None → find (has_digest q) xs ≡ None
unfolding place_from
find_none n [] q e = refl
find_none n (x ∷ xs) q e = at (has_digest q x) (find_none (n + 1) xs q) e
  where
    at : (h : Bool) → (place_from (n + 1) xs q ≡ None → find (has_digest q) xs ≡ None) → (if h then Some n else place_from (n + 1) xs q) ≡ None
        → (if h then Some x else find (has_digest q) xs) ≡ None
    at true ih k = cc
    at false ih k = ih k

-- ---- what is found

or_false : (b : Bool) → (b || false) ≡ b
or_false true = refl
or_false false = refl

any_push : (f : List ℕ → Bool) (xs : List (List ℕ)) (b : List ℕ) → list_any f (xs ++ b ∷ []) ≡ (list_any f xs || f b)
any_push f [] b = or_false (f b)
any_push f (x ∷ xs) b = at (f x) (any_push f xs b)
  where
    at : (h : Bool) → list_any f (xs ++ b ∷ []) ≡ (list_any f xs || f b) → (h || list_any f (xs ++ b ∷ [])) ≡ ((h || list_any f xs) || f b)
    at true ih = refl
    at false ih = ih

sound_push : (xs : List (List ℕ)) (b q : List ℕ) → is_sound (xs ++ b ∷ []) q ≡ (is_sound xs q || (has_digest q b && is_ok (decoded b)))
unfolding is_sound
sound_push xs b q = any_push (λ (bytes : List ℕ). has_digest q bytes && is_ok (decoded bytes)) xs b

transfers_push : (xs : List (List ℕ)) (b q : List ℕ) → transfers_of (xs ++ b ∷ []) q ≡ transfers_in (option_or (find (has_digest q) xs) (if has_digest q b then Some b else None))
unfolding transfers_of
transfers_push xs b q = ap transfers_in (find-append (has_digest q) xs (b ∷ []))

transfers_at : (xs : List (List ℕ)) (q : List ℕ) → transfers_of xs q ≡ transfers_in (find (has_digest q) xs)
unfolding transfers_of
transfers_at xs q = refl

good_if : (r : Result (List Transfer) DecodeError) → is_some (transfers_if_any r) ≡ is_ok r
good_if (Ok transfers) = refl
good_if (Err error) = refl

transfers_if : (r : Result (List Transfer) DecodeError) → transfers_or_none (transfers_if_any r) ≡ decoded_or_none r
transfers_if (Ok transfers) = refl
transfers_if (Err error) = refl

or_none : {A : Type 0} (o : Option A) → option_or o None ≡ o
or_none None = refl
or_none (Some x) = refl

-- ---- the index

pub no_blocks : (index : Index) → ((q : List ℕ) → found_at index q ≡ None) → IsIndexOf index []
unfolding place_from is_sound transfers_of
no_blocks index none = record {
  places = λ q. ap place_of (none q);
  sound = λ q. ap is_good (none q);
  transfers = λ q. ap transfers_found (none q);
}

module _ (old new : Index) (before : List (List ℕ)) (bytes digest : List ℕ) (found : Found) where
  -- what holds of a digest before and after
  other : (q : List ℕ) → has_digest q bytes ≡ false → IsIndexOf old before → found_at new q ≡ found_at old q
      → (place_of (found_at new q) ≡ place_from 0 (before ++ bytes ∷ []) q) × (is_good (found_at new q) ≡ is_sound (before ++ bytes ∷ []) q) × (transfers_found (found_at new q) ≡ transfers_of (before ++ bytes ∷ []) q)
  other q apart of same = (
    ap place_of same ∙ of.places q ∙ sym (or_none (place_from 0 before q)) ∙ sym (place_push 0 before bytes q ∙ ap (λ (b : Bool). option_or (place_from 0 before q) (if b then Some (0 + length before) else None)) apart),
    ap is_good same ∙ of.sound q ∙ sym (or_false (is_sound before q)) ∙ sym (sound_push before bytes q ∙ ap (λ (b : Bool). is_sound before q || (b && is_ok (decoded bytes))) apart),
    ap transfers_found same ∙ of.transfers q ∙ transfers_at before q ∙ ap transfers_in (sym (or_none (find (has_digest q) before)))
        ∙ sym (transfers_push before bytes q ∙ ap (λ (b : Bool). transfers_in (option_or (find (has_digest q) before) (if b then Some bytes else None))) apart),
  )

  this : (q : List ℕ) → has_digest q bytes ≡ true → found.place ≡ length before → found.transfers ≡ transfers_if_any (decoded bytes) → IsIndexOf old before → found_at old q ≡ None → found_at new q ≡ Some found
      → (place_of (found_at new q) ≡ place_from 0 (before ++ bytes ∷ []) q) × (is_good (found_at new q) ≡ is_sound (before ++ bytes ∷ []) q) × (transfers_found (found_at new q) ≡ transfers_of (before ++ bytes ∷ []) q)
  this q here place transfers of none is =
      let counted : length before ≡ 0 + length before = omega arith in
      let nowhere : place_from 0 before q ≡ None = sym (of.places q) ∙ ap place_of none in
      let unsound : is_sound before q ≡ false = sym (of.sound q) ∙ ap is_good none in (
        ap place_of is ∙ ap Some (place ∙ counted) ∙ sym (place_here 0 before bytes [] q nowhere here),
        ap is_good is ∙ ap is_some transfers ∙ good_if (decoded bytes)
            ∙ sym (sound_push before bytes q ∙ ap (λ (b : Bool). b || (has_digest q bytes && is_ok (decoded bytes))) unsound ∙ ap (λ (b : Bool). b && is_ok (decoded bytes)) here),
        ap transfers_found is ∙ ap transfers_or_none transfers ∙ transfers_if (decoded bytes)
            ∙ sym (transfers_push before bytes q ∙ ap (λ (o : Option (List ℕ)). transfers_in (option_or o (if has_digest q bytes then Some bytes else None))) (find_none 0 before q nowhere)
            ∙ ap (λ (b : Bool). transfers_in (if b then Some bytes else None)) here),
      )

  pub one_more : digest ≡ sha256 bytes → found.place ≡ length before → found.transfers ≡ transfers_if_any (decoded bytes) → found_at old digest ≡ None
      → ((q : List ℕ) → found_at new q ≡ (if bytes_eq digest q then Some found else found_at old q)) → IsIndexOf old before → IsIndexOf new (before ++ bytes ∷ [])
  one_more is place transfers none now of = record { places = λ q. (all q).0; sound = λ q. (all q).1; transfers = λ q. (all q).2 }
    where
      all : (q : List ℕ) → (place_of (found_at new q) ≡ place_from 0 (before ++ bytes ∷ []) q) × (is_good (found_at new q) ≡ is_sound (before ++ bytes ∷ []) q) × (transfers_found (found_at new q) ≡ transfers_of (before ++ bytes ∷ []) q)
      all q = by (has_digest q bytes) refl
        where
          tested : bytes_eq digest q ≡ has_digest q bytes
          tested = ap (λ (d : List ℕ). bytes_eq d q) is

          by : (b : Bool) → has_digest q bytes ≡ b → (place_of (found_at new q) ≡ place_from 0 (before ++ bytes ∷ []) q) × (is_good (found_at new q) ≡ is_sound (before ++ bytes ∷ []) q) × (transfers_found (found_at new q) ≡ transfers_of (before ++ bytes ∷ []) q)
          by true e =
              let same : digest ≡ q = (bytes_eq-Decides digest q).0 (tested ∙ e) in
              this q e place transfers of (subst (λ (d : List ℕ). found_at old d ≡ None) same none) (now q ∙ ap (λ (b : Bool). if b then Some found else found_at old q) (tested ∙ e))
          by false e = other q e of (now q ∙ ap (λ (b : Bool). if b then Some found else found_at old q) (tested ∙ e))

-- ---- doubles

apart_from : (a b : ℕ) → a < b → (a == b) ≡ false
apart_from a b low = by (a == b) refl
  where
    by : (t : Bool) → (a == b) ≡ t → t ≡ false
    by true e = absurd (omega (arith, low, eqb-true a b e))
    by false e = refl

itself : (x : List ℕ) → has_digest (sha256 x) x ≡ true
itself x = (bytes_eq-Decides (sha256 x) (sha256 x)).1 refl

-- no block before has its digest: the next ones are looked at
pub no_double : (front : List (List ℕ)) (x : List ℕ) (rest : List (List ℕ)) → place_from 0 front (sha256 x) ≡ None
    → double_from (front ++ x ∷ rest) (length front) (x ∷ rest) ≡ double_from (front ++ x ∷ rest) (length front + 1) rest
unfolding double_from
no_double front x rest none =
    let n = length front in
    let next = double_from (front ++ x ∷ rest) (n + 1) rest in
    let here : place_from 0 (front ++ x ∷ rest) (sha256 x) ≡ Some n = place_here 0 front x rest (sha256 x) none (itself x) ∙ ap Some (omega arith) in
    ap (λ (o : Option ℕ). unless_first n o next) here ∙ ap (λ (b : Bool). if b then next else Some (n, n)) (eq-eqb n n refl)

-- a block before has it
pub a_double : (front : List (List ℕ)) (x : List ℕ) (rest : List (List ℕ)) (first : ℕ) → place_from 0 front (sha256 x) ≡ Some first
    → double_from (front ++ x ∷ rest) (length front) (x ∷ rest) ≡ Some (first, length front)
unfolding double_from
a_double front x rest first is =
    let n = length front in
    let next = double_from (front ++ x ∷ rest) (n + 1) rest in
    let low : first < n = (let below = place_below 0 front (sha256 x) first is in omega (arith, below)) in
    ap (λ (o : Option ℕ). unless_first n o next) (place_front 0 front (x ∷ rest) (sha256 x) first is) ∙ ap (λ (b : Bool). if b then next else Some (first, n)) (apart_from first n low)

pub no_more : (blocks : List (List ℕ)) (place : ℕ) → double_from blocks place [] ≡ None
unfolding double_from
no_more blocks place = refl

-- ---- a turn of the loop

split_at : (blocks : List (List ℕ)) (i : ℕ) (x : List ℕ) → i < length blocks → x ≡ get_or blocks i x → blocks ≡ take i blocks ++ x ∷ drop (i + 1) blocks
split_at blocks i x low is = sym (take-append-drop i blocks) ∙ ap (λ (rest : List (List ℕ)). take i blocks ++ rest) (rest_item blocks i x low is)

module _ (blocks : List (List ℕ)) (i : ℕ) (x : List ℕ) (low : i < length blocks) (is : x ≡ get_or blocks i x) where
  pub many : length (take i blocks) ≡ i
  many = omega (arith, length-take-le i blocks (omega (arith, low)))

  -- the double of these is looked for from here on
  moved_to : (y : Option (ℕ × ℕ)) → double_from (take i blocks ++ x ∷ drop (i + 1) blocks) (length (take i blocks)) (x ∷ drop (i + 1) blocks) ≡ y → double_from blocks i (drop i blocks) ≡ y
  moved_to y e =
      ap (λ (r : List (List ℕ)). double_from blocks i r) (rest_item blocks i x low is)
      ∙ ap (λ (all : List (List ℕ)). double_from all i (x ∷ drop (i + 1) blocks)) (split_at blocks i x low is)
      ∙ ap (λ (n : ℕ). double_from (take i blocks ++ x ∷ drop (i + 1) blocks) n (x ∷ drop (i + 1) blocks)) (sym many) ∙ e

  pub goes_past : place_from 0 (take i blocks) (sha256 x) ≡ None → double_from blocks i (drop i blocks) ≡ double_of blocks → double_from blocks (i + 1) (drop (i + 1) blocks) ≡ double_of blocks
  goes_past none so_far =
      let step : double_from blocks i (drop i blocks) ≡ double_from (take i blocks ++ x ∷ drop (i + 1) blocks) (length (take i blocks) + 1) (drop (i + 1) blocks) =
      moved_to _ (no_double (take i blocks) x (drop (i + 1) blocks) none) in
      ap (λ (all : List (List ℕ)). double_from all (i + 1) (drop (i + 1) blocks)) (split_at blocks i x low is)
      ∙ ap (λ (n : ℕ). double_from (take i blocks ++ x ∷ drop (i + 1) blocks) (n + 1) (drop (i + 1) blocks)) (sym many) ∙ sym step ∙ so_far

  pub stops_here : (first : ℕ) → place_from 0 (take i blocks) (sha256 x) ≡ Some first → double_from blocks i (drop i blocks) ≡ double_of blocks → double_of blocks ≡ Some (first, i)
  stops_here first found so_far =
      sym so_far ∙ moved_to (Some (first, length (take i blocks))) (a_double (take i blocks) x (drop (i + 1) blocks) first found) ∙ ap (λ (n : ℕ). Some (first, n)) many

  pub one_behind : (index : Index) → IsIndexOf index (take i blocks ++ x ∷ []) → IsIndexOf index (take (i + 1) blocks)
  one_behind index of = subst (IsIndexOf index) (sym (next_item blocks i x low is)) of

-- ---- how it ends

pub fails_from : (blocks : List (List ℕ)) (i : ℕ) (error : LedgerError) → (error ≡ Memory) ⊎ ((first : ℕ) × (error ≡ Double first i) × (double_of blocks ≡ Some (first, i)))
    → FailsBy {A = Index} (double_fault blocks) (Err error)
fails_from blocks i error (inl memory) = subst (λ (e : LedgerError). FailsBy {A = Index} (double_fault blocks) (Err e)) (sym memory) tt
fails_from blocks i error (inr double) =
    subst (λ (e : LedgerError). FailsBy {A = Index} (double_fault blocks) (Err e)) (sym double.1) (ap (option_map (λ (d : ℕ × ℕ). Double d.0 d.1)) double.2)

pub none_at_end : (blocks : List (List ℕ)) (i : ℕ) → length blocks ≤ i → double_from blocks i (drop i blocks) ≡ double_of blocks → double_fault blocks ≡ None
none_at_end blocks i past so_far =
    ap (option_map (λ (d : ℕ × ℕ). Double d.0 d.1)) (sym so_far ∙ ap (λ (rest : List (List ℕ)). double_from blocks i rest) (nothing_left blocks i past) ∙ no_more blocks i)
