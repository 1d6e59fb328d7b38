-- Transfers, one behind another.
use Rattle.std.proofs.Common.{◌≡◌, ℕ, zero, suc, ◌+◌, ◌-◌, ◌^◌, ◌<◌, ◌≤◌, ◌&&◌, nat_lt, nat_le, true, List, [], ◌∷◌, ◌++◌, length, get_or, take, drop, refl, sym, ap, ◌∙◌, arith, append-nil, append_assoc, length-set, ltb-true, leb-true}
use Rattle.std.specs.Prelude.{sum}
use Rattle.std.specs.List.{flat_map}
use Rattle.std.proofs.lemmas.Bool.{and_parts}
use Rattle.std.proofs.lemmas.List.{take_more, length-drop, nil_from_length}
use Rattle.std.proofs.lemmas.List.Sums.{get_or-le-sum_by}
use Rattle.model_ledger.specs.declared.transfer.Transfer.{Transfer}
use Rattle.model_ledger.specs.Balances.{balance_at, may_move, taken, moved, after_all}
use Rattle.model_ledger.proofs.Keeping.{set_sum, all_sum}

-- an amount that is given fits
pub given_fits : (balances : List ℕ) (t : Transfer) → may_move balances t ≡ true → sum balances ≤ 2 ^ 63 → balance_at (taken balances t.from t.amount) t.to + t.amount ≤ 2 ^ 63
given_fits balances t e small =
    let outer = and_parts (nat_lt t.from (length balances) && nat_lt t.to (length balances)) (nat_le t.amount (balance_at balances t.from)) e in
    let inner = and_parts (nat_lt t.from (length balances)) (nat_lt t.to (length balances)) outer.0 in
    let from : t.from < length balances = ltb-true t.from (length balances) inner.0 in
    let to : t.to < length balances = ltb-true t.to (length balances) inner.1 in
    let enough : t.amount ≤ balance_at balances t.from = leb-true t.amount (balance_at balances t.from) outer.1 in
    let less : List ℕ = taken balances t.from t.amount in
    let long : length less ≡ length balances = length-set balances t.from (balance_at balances t.from - t.amount) in
    let first : sum less + balance_at balances t.from ≡ sum balances + (balance_at balances t.from - t.amount) = set_sum balances t.from (balance_at balances t.from - t.amount) from in
    let high : balance_at less t.to ≤ sum less = get_or-le-sum_by (λ (n : ℕ). n) less t.to 0 (omega (arith, to, long)) in
    omega (arith, enough, first, high, small)

-- one more item of a list
pub next_item : {X : Type 0} (xs : List X) (i : ℕ) (x : X) → i < length xs → x ≡ get_or xs i x → take (i + 1) xs ≡ take i xs ++ x ∷ []
next_item xs i x low is = take_more xs i x low ∙ ap (λ (y : _). take i xs ++ y ∷ []) (sym is)

rest_suc : {X : Type 0} (xs : List X) (i : ℕ) (x : X) → i < length xs → x ≡ get_or xs i x → drop i xs ≡ x ∷ drop (suc i) xs
rest_suc [] i x low is = absurd (omega (arith, low))
rest_suc (y ∷ xs) zero x low is = ap (λ (z : _). z ∷ xs) (sym is)
rest_suc (y ∷ xs) (suc i) x low is = rest_suc xs i x (omega (arith, low)) is

-- one item, and those behind it
pub rest_item : {X : Type 0} (xs : List X) (i : ℕ) (x : X) → i < length xs → x ≡ get_or xs i x → drop i xs ≡ x ∷ drop (i + 1) xs
rest_item xs i x low is = (let one : suc i ≡ i + 1 = omega arith in rest_suc xs i x low is ∙ ap (λ (n : ℕ). x ∷ drop n xs) one)

pub after_append : (balances : List ℕ) (xs ys : List Transfer) → after_all balances (xs ++ ys) ≡ after_all (after_all balances xs) ys
after_append balances [] ys = refl
after_append balances (x ∷ xs) ys = after_append (moved balances x) xs ys

-- one more transfer
pub after_more : (balances : List ℕ) (ts : List Transfer) (i : ℕ) (none : Transfer) → i < length ts → moved (after_all balances (take i ts)) (get_or ts i none) ≡ after_all balances (take (i + 1) ts)
after_more balances ts i none low = sym (after_append balances (take i ts) (get_or ts i none ∷ [])) ∙ ap (after_all balances) (sym (take_more ts i none low))

-- nothing is left behind the end
pub nothing_left : {X : Type 0} (xs : List X) (i : ℕ) → length xs ≤ i → drop i xs ≡ []
nothing_left xs i past = nil_from_length (drop i xs) (omega (arith, past, length-drop i xs))

pub flat_append : {A B : Type 0} (f : A → List B) (xs ys : List A) → flat_map f (xs ++ ys) ≡ flat_map f xs ++ flat_map f ys
flat_append f [] ys = refl
flat_append f (x ∷ xs) ys = ap (λ (zs : List _). f x ++ zs) (flat_append f xs ys) ∙ sym (append_assoc (f x) (flat_map f xs) (flat_map f ys))

-- one more list of them
pub after_list : {X : Type 0} (f : X → List Transfer) (balances : List ℕ) (xs : List X) (i : ℕ) (x : X) → i < length xs → x ≡ get_or xs i x
    → after_all (after_all balances (flat_map f (take i xs))) (f x) ≡ after_all balances (flat_map f (take (i + 1) xs))
after_list f balances xs i x low is =
    sym (after_append balances (flat_map f (take i xs)) (f x))
    ∙ ap (after_all balances) (
    ap (λ (zs : List Transfer). flat_map f (take i xs) ++ zs) (sym (append-nil (f x)))
    ∙ sym (flat_append f (take i xs) (x ∷ []))
    ∙ ap (flat_map f) (sym (next_item xs i x low is)))

-- the sum stays small
pub stays_small : (balances : List ℕ) (ts : List Transfer) (now : List ℕ) → now ≡ after_all balances ts → sum balances ≤ 2 ^ 63 → sum now ≤ 2 ^ 63
stays_small balances ts now e small = (let same : sum now ≡ sum balances = ap sum e ∙ all_sum ts balances in omega (arith, same, small))
