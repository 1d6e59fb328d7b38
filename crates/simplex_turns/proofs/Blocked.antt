-- Whom a batcher hears no more, as a set of members.
use Rattle.std.proofs.Common.{◌≡◌, ◌∙◌, ◌+◌, ◌<◌, ◌==◌, ◌||◌, ℕ, Bool, true, false, refl, sym, ap, inl, inr, arith, List, [], ◌∷◌, ◌++◌, take, get_or, length}
use Rattle.std.proofs.lemmas.List.{take_more}
use Rattle.std.proofs.lemmas.List.Elements.{filter_map-append}
use Rattle.std.proofs.lemmas.Grind.{common_steps}
use Rattle.std.proofs.lemmas.Bool.{cases_order}
use Rattle.std.proofs.lemmas.Bool.Decides.{nat_tests}
use Rattle.std.proofs.lemmas.List.Folds.{list_any-append}
use Rattle.std.specs.Ordering.{nat_cmp}
use Rattle.std.specs.BTreeSet.{insert_key}
use Rattle.simplex_messages.specs.declared.call.Call.{Call}
use Rattle.simplex_messages.specs.Step.{blocked_member, blocked_by_calls}
use Rattle.model_resolver.specs.Asks.{holds_member}

-- the same members
abbrev pub IsSameSet : List ℕ → List ℕ → Type 0
IsSameSet xs ys = (q : ℕ) → holds_member xs q ≡ holds_member ys q

-- behind the same more they are the same
pub same-more : (more xs ys : List ℕ) → IsSameSet xs ys → IsSameSet (more ++ xs) (more ++ ys)
same-more more xs ys same q =
    list_any-append (λ m. m == q) more xs ∙ ap (λ b. holds_member more q || b) (same q) ∙ sym (list_any-append (λ m. m == q) more ys)

-- one more member
pub holds-insert : (keys : List ℕ) (k q : ℕ) → holds_member (insert_key nat_cmp keys k) q ≡ ((k == q) || holds_member keys q)
holds-insert [] k q = refl
holds-insert (x ∷ keys) k q =
    let rest = holds-insert keys k q in
    elim (cases_order k x) [
      | inl same ↦ grind (arith, common_steps, nat_tests)
      | inr (inl below) ↦ grind (arith, common_steps, nat_tests)
      | inr (inr above) ↦ grind (arith, common_steps, nat_tests, rest)
    ]

-- one more call blocks whom it blocks
pub blocked-more : (calls : List Call) (i : ℕ) (call : Call) → i < length calls → call ≡ get_or calls i call
    → blocked_by_calls (take (i + 1) calls) ≡ blocked_by_calls (take i calls) ++ blocked_by_calls (call ∷ [])
blocked-more calls i call low is =
    ap (λ l. blocked_by_calls l) (take_more calls i call low ∙ ap (λ m. take i calls ++ m ∷ []) (sym is))
    ∙ filter_map-append blocked_member (take i calls) (call ∷ [])

-- members that were noted one by one are those of all calls, in any order
pub same-noted : (after before seen one old all : List ℕ) → IsSameSet after (one ++ before) → IsSameSet before (seen ++ old) → all ≡ seen ++ one
    → IsSameSet after (all ++ old)
same-noted after before seen one old all noted held is q =
    noted q ∙ list_any-append (λ m. m == q) one before ∙ ap (λ b. holds_member one q || b) (held q ∙ list_any-append (λ m. m == q) seen old)
    ∙ swapped (holds_member one q) (holds_member seen q) (holds_member old q)
    ∙ sym (list_any-append (λ m. m == q) (seen ++ one) old ∙ ap (λ b. b || holds_member old q) (list_any-append (λ m. m == q) seen one))
    ∙ ap (λ l. holds_member (l ++ old) q) (sym is)
  where
    swapped : (a b c : Bool) → (a || (b || c)) ≡ ((b || a) || c)
    swapped true true c = refl
    swapped true false c = refl
    swapped false true c = refl
    swapped false false c = refl
