-- Chains of logs of which one begins the other.
use Rattle.std.proofs.Common.{◌≡◌, ℕ, zero, suc, ◌+◌, ◌-◌, ◌<◌, ◌≤◌, Bool, true, false, List, [], ◌∷◌, ◌++◌, map, take, length, slice_get, refl, sym, ap, subst, ◌∙◌, inl, inr, arith, append_assoc, append-nil, length-append, le-leb, take_all, if◌then◌else◌}
use Rattle.std.specs.Option.{option_map}
use Rattle.std.proofs.Math.Seq.{take-append-add}
use Rattle.std.proofs.lemmas.Bool.{cases_lt, leb-true}
use Rattle.std.proofs.lemmas.List.{take-append-le, map-append}
use Rattle.model_log.specs.declared.entry.LogEntry.{LogEntry}
use Rattle.model_log.specs.Fronts.{IsFrontOf, AreFronts}
use Rattle.model_epochs.specs.declared.chain.ChainEntry.{ChainEntry}
use Rattle.law_epochs.specs.Alike.{AreAlike}
use Rattle.model_epochs.specs.Chain.{part_of, is_closed, chain_of, payload_at}

swapped : {X : Type 0} (xs ys : List X) → AreFronts xs ys → AreFronts ys xs
swapped xs ys (inl f) = inr f
swapped xs ys (inr f) = inl f

behind_same : {X : Type 0} (part xs ys : List X) → AreFronts xs ys → AreFronts (part ++ xs) (part ++ ys)
behind_same {X} part xs ys (inl f) = inl (f.0, ap (λ (zs : List X). part ++ zs) f.1 ∙ sym (append_assoc part xs f.0))
behind_same {X} part xs ys (inr f) = inr (f.0, ap (λ (zs : List X). part ++ zs) f.1 ∙ sym (append_assoc part ys f.0))

closed_if : (height : ℕ) (log : List LogEntry) → height ≤ length log → is_closed height log ≡ true
closed_if height log le = le-leb height (length log) le

-- both are long enough
both_closed : (height epoch : ℕ) (a rest : List LogEntry) (xs ys : List ChainEntry) → height ≤ length a → AreFronts xs ys
    → AreFronts (part_of height (epoch, a) ++ (if is_closed height a then xs else [])) (part_of height (epoch, a ++ rest) ++ (if is_closed height (a ++ rest) then ys else []))
both_closed height epoch a rest xs ys le f =
    let long : height ≤ length (a ++ rest) = omega (arith, le, length-append a rest) in
    let part : List LogEntry → List ChainEntry = map (λ (entry : LogEntry). record { epoch = epoch; entry = entry }) in
    rw (closed_if height a le) (rw (closed_if height (a ++ rest) long) (rw (take-append-le height a rest le) (behind_same (part (take height a)) xs ys f)))

-- the shorter one ends the chain
one_open : (height epoch : ℕ) (a rest : List LogEntry) (xs ys : List ChainEntry) → length a < height
    → IsFrontOf (part_of height (epoch, a) ++ (if is_closed height a then xs else [])) (part_of height (epoch, a ++ rest) ++ ys)
one_open height epoch a rest xs ys lt =
    let part : List LogEntry → List ChainEntry = map (λ (entry : LogEntry). record { epoch = epoch; entry = entry }) in
    let more = take (height - length a) rest in
    let no : is_closed height a ≡ false = open_if (is_closed height a) refl in
    let own : part (take height a) ++ (if is_closed height a then xs else []) ≡ part a =
    ap (λ (b : Bool). part (take height a) ++ (if b then xs else [])) no ∙ append-nil (part (take height a)) ∙ ap part (take_all height a (omega (arith, lt))) in
    let sum : height ≡ length a + (height - length a) = omega (arith, lt) in
    let cut : take height (a ++ rest) ≡ a ++ more = ap (λ (n : ℕ). take n (a ++ rest)) sum ∙ take-append-add a rest (height - length a) in
    let other : part (take height (a ++ rest)) ++ ys ≡ part a ++ (part more ++ ys) =
    ap (λ (zs : List LogEntry). part zs ++ ys) cut ∙ ap (λ (zs : List ChainEntry). zs ++ ys) (map-append (λ (entry : LogEntry). record { epoch = epoch; entry = entry }) a more) ∙ append_assoc (part a) (part more) ys in
    (part more ++ ys, other ∙ ap (λ (zs : List ChainEntry). zs ++ (part more ++ ys)) (sym own))
  where
    open_if : (b : Bool) → is_closed height a ≡ b → b ≡ false
    open_if true e = absurd (omega (arith, lt, leb-true height (length a) e))
    open_if false e = refl

front_first : (height epoch : ℕ) (a b : List LogEntry) (xs ys : List ChainEntry) → IsFrontOf a b → AreFronts xs ys
    → AreFronts (part_of height (epoch, a) ++ (if is_closed height a then xs else [])) (part_of height (epoch, b) ++ (if is_closed height b then ys else []))
front_first height epoch a b xs ys f fronts =
    subst (λ (c : List LogEntry). AreFronts (part_of height (epoch, a) ++ (if is_closed height a then xs else [])) (part_of height (epoch, c) ++ (if is_closed height c then ys else []))) (sym f.1)
    (elim (cases_lt (length a) height) [
      | inl lt ↦ inl (one_open height epoch a f.0 xs (if is_closed height (a ++ f.0) then ys else []) lt)
      | inr le ↦ both_closed height epoch a f.0 xs ys le fronts
    ])

pub joined : (height : ℕ) (xs ys : List (ℕ × List LogEntry)) → AreAlike xs ys → AreFronts (chain_of height xs) (chain_of height ys)
unfolding chain_of
joined height [] [] alike = inl ([], refl)
joined height [] (b ∷ ys) alike = absurd alike
joined height (a ∷ xs) [] alike = absurd alike
joined height (a ∷ xs) (b ∷ ys) alike =
    let later = joined height xs ys alike.2 in
    let left = part_of height a ++ (if is_closed height a.1 then chain_of height xs else []) in
    subst (λ (epoch : ℕ). AreFronts left (part_of height (epoch, b.1) ++ (if is_closed height b.1 then chain_of height ys else []))) alike.0
    (elim alike.1 [
      | inl f ↦ front_first height a.0 a.1 b.1 (chain_of height xs) (chain_of height ys) f later
      | inr f ↦ swapped _ _ (front_first height a.0 b.1 a.1 (chain_of height ys) (chain_of height xs) f (swapped _ _ later))
    ])

-- ---- one payload

same_place : (xs rest : List LogEntry) (i : ℕ) → i < length xs → slice_get (xs ++ rest) i ≡ slice_get xs i
same_place [] rest i lt = absurd (omega (arith, lt))
same_place (x ∷ xs) rest zero lt = refl
same_place (x ∷ xs) rest (suc i) lt = same_place xs rest i (omega (arith, lt))

front_agrees : (height : ℕ) (a b : List LogEntry) → 0 < height → height ≤ length a → IsFrontOf a b → payload_at height a ≡ payload_at height b
front_agrees height a b some le f =
    ap (option_map (λ (entry : LogEntry). entry.payload)) (sym (same_place a f.0 (height - 1) (omega (arith, some, le))) ∙ ap (λ (zs : List LogEntry). slice_get zs (height - 1)) (sym f.1))

pub agreed : (height : ℕ) (a b : List LogEntry) → 0 < height → height ≤ length a → height ≤ length b → AreFronts a b → payload_at height a ≡ payload_at height b
agreed height a b some la lb (inl f) = front_agrees height a b some la f
agreed height a b some la lb (inr f) = sym (front_agrees height b a some lb f)
