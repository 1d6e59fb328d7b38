-- Whom calls block, as a set of members, and as a history that a resolver is told.
use Rattle.std.proofs.Common.{◌≡◌, ◌∙◌, ◌+◌, ◌<◌, ◌==◌, ◌||◌, ℕ, Bool, true, false, refl, sym, ap, inl, inr, arith, List, [], ◌∷◌, ◌++◌, map, reverse, take, get_or, length}
use Rattle.std.proofs.lemmas.List.{take_more, map-append, reverse-append}
use Rattle.std.proofs.lemmas.Grind.{common_steps}
use Rattle.std.proofs.lemmas.Bool.{cases_order}
use Rattle.std.proofs.lemmas.Bool.Decides.{nat_tests}
use Rattle.std.proofs.lemmas.List.Folds.{list_any-append}
use Rattle.std.specs.Ordering.{nat_cmp}
use Rattle.std.specs.BTreeSet.{insert_key}
use Rattle.simplex_messages.specs.declared.call.Call.{Call}
use Rattle.simplex_messages.specs.Step.{blocked_by_calls}
use Rattle.model_resolver.specs.Asks.{holds_member}
use Rattle.model_resolver.specs.Resolver.{Given, Blocked}

-- a set of these members and those before holds those of the calls and those before
pub blocked-more : (before after members : List ℕ) (made : List Call) (blocked : List ℕ) → members ≡ blocked_by_calls made
    → ((q : ℕ) → holds_member after q ≡ (holds_member members q || holds_member before q))
    → ((q : ℕ) → holds_member before q ≡ holds_member blocked q)
    → (q : ℕ) → holds_member after q ≡ holds_member (blocked_by_calls made ++ blocked) q
blocked-more before after members made blocked is noted held q =
    noted q ∙ ap (λ b. holds_member members q || b) (held q) ∙ ap (λ l. holds_member l q || holds_member blocked q) is
    ∙ sym (list_any-append (λ m. m == q) (blocked_by_calls made) blocked)

-- one more member among those that are blocked
holds-insert : (keys : List ℕ) (k q : ℕ) → holds_member (insert_key nat_cmp keys k) q ≡ ((k == q) || holds_member keys q)
holds-insert [] k q = refl
holds-insert (x ∷ keys) k q =
    let rest = holds-insert keys k q in
    elim (cases_order k x) [
      | inl same ↦ grind (arith, common_steps, nat_tests)
      | inr (inl below) ↦ grind (arith, common_steps, nat_tests)
      | inr (inr above) ↦ grind (arith, common_steps, nat_tests, rest)
    ]

pub noted-more : (members before keys after : List ℕ) (i item q : ℕ) → i < length members → item ≡ get_or members i item → after ≡ insert_key nat_cmp keys item
    → holds_member keys q ≡ (holds_member (take i members) q || holds_member before q)
    → holds_member after q ≡ (holds_member (take (i + 1) members) q || holds_member before q)
noted-more members before keys after i item q low is added so_far =
    let one = holds-insert keys item q in
    let all : take (i + 1) members ≡ take i members ++ item ∷ [] = take_more members i item low ∙ ap (λ m. take i members ++ m ∷ []) (sym is) in
    let both = list_any-append (λ m. m == q) (take i members) (item ∷ []) in
    let inserted : holds_member after q ≡ ((item == q) || holds_member keys q) = ap (λ l. holds_member l q) added ∙ one in
    let taken : holds_member (take (i + 1) members) q ≡ (holds_member (take i members) q || holds_member (item ∷ []) q) = ap (λ l. holds_member l q) all ∙ both in
    rw (inserted, taken, so_far) (joined (holds_member (take i members) q) (item == q) (holds_member before q))
  where
    joined : (a b c : Bool) → (b || (a || c)) ≡ ((a || (b || false)) || c)
    joined true true c = refl
    joined true false c = refl
    joined false true c = refl
    joined false false c = refl

-- before the start nobody is blocked
pub blocked-first : (keys : List ℕ) → keys ≡ [] → (q : ℕ) → holds_member keys q ≡ holds_member [] q
blocked-first keys none q = ap (λ l. holds_member l q) none

-- one more that a resolver is told, behind those before
pub told-more : (members : List ℕ) (i d : ℕ) (past : List Given) → i < length members
    → reverse (map (λ member. Blocked member) (take (i + 1) members)) ++ past
    ≡ Blocked (get_or members i d) ∷ (reverse (map (λ member. Blocked member) (take i members)) ++ past)
told-more members i d past low =
    ap (λ l. reverse (map (λ member. Blocked member) l) ++ past) (take_more members i d low)
    ∙ ap (λ l. reverse l ++ past) (map-append (λ member. Blocked member) (take i members) (get_or members i d ∷ []))
    ∙ ap (λ l. l ++ past) (reverse-append (map (λ member. Blocked member) (take i members)) (Blocked (get_or members i d) ∷ []))
