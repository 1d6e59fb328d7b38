-- What was taken and what was added, call after call.
use Rattle.std.proofs.Common.{◌≡◌, ◌<◌, ◌≤◌, ◌+◌, ℕ, List, ◌++◌, length, take, drop, Option, Some, None, sym, ap, ◌∙◌, append_assoc, arith, length-append}
use Rattle.std.proofs.lemmas.List.{take-append-drop}
use Rattle.simplex_io.specs.Io.{Takes, TakesOver, TakesWithin, Adds}

-- two reads took what the first gave and then what the second gave
pub takes_more : (old mid new : Option (List ℕ)) (p q : List ℕ) → Takes old p mid → Takes mid q new → Takes old (p ++ q) new
takes_more None mid new p q a b = tt
takes_more (Some xs) None new p q a b = absurd a
takes_more (Some xs) (Some ys) None p q a b = absurd b
takes_more (Some xs) (Some ys) (Some zs) p q a b = a ∙ ap (λ rest. p ++ rest) b ∙ sym (append_assoc p q zs)

-- two reads took more than the limit
pub over_by : (limit : ℕ) (old mid new : Option (List ℕ)) (p q : List ℕ) → Takes old p mid → Takes mid q new → limit < length p + length q → TakesOver limit old new
over_by limit old mid new p q a b h = (p ++ q, takes_more old mid new p q a b, omega (arith, length-append p q))

-- two reads took no more than the limit
pub within_by : (limit : ℕ) (old mid new : Option (List ℕ)) (p q : List ℕ) → Takes old p mid → Takes mid q new → length p + length q ≤ limit → TakesWithin limit old new
within_by limit old mid new p q a b h = (p ++ q, takes_more old mid new p q a b, omega (arith, length-append p q))

-- two writes added what the first took and then what the second took
pub adds_more : (old mid new : Option (List ℕ)) (p q : List ℕ) → Adds old p mid → Adds mid q new → Adds old (p ++ q) new
adds_more None mid new p q a b = tt
adds_more (Some xs) None new p q a b = absurd a
adds_more (Some xs) (Some ys) None p q a b = absurd b
adds_more (Some xs) (Some ys) (Some zs) p q a b = b ∙ ap (λ done. done ++ q) a ∙ append_assoc xs p q

-- after a write that took the first n bytes of the rest, the written part is longer by these
pub part_more : (old mid new : Option (List ℕ)) (bytes rest after : List ℕ) (n : ℕ) → (p : List ℕ) × (bytes ≡ p ++ rest) × Adds old p mid → Adds mid (take n rest) new
    → after ≡ drop n rest → (p : List ℕ) × (bytes ≡ p ++ after) × Adds old p new
part_more old mid new bytes rest after n (p, e, a) b is =
    (p ++ take n rest, e ∙ ap (λ r. p ++ r) (sym (take-append-drop n rest)) ∙ sym (append_assoc p (take n rest) (drop n rest)) ∙ ap (λ r. (p ++ take n rest) ++ r) (sym is), adds_more old mid new p (take n rest) a b)
