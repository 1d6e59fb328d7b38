-- Files that were there at first.
use Rattle.std.proofs.Common.{◌≡◌, ℕ, Bool, true, false, cond, eqb, List, [], ◌∷◌, Option, Some, refl, arith, inl, inr}
use Rattle.std.specs.Cmp.{unsigned_tied}
use Rattle.std.proofs.lemmas.Bool.{cases_eq}
use Rattle.std.proofs.lemmas.Bool.Decides.{nat_tests}
use Rattle.std.proofs.lemmas.Grind.{common_steps}
use Rattle.simplex_disk.specs.Calls.{Call, Found, content, MayLeave, LeavesIf}
use Rattle.simplex_disk.specs.Memory.{file_in, IsLeftBy}
use Rattle.simplex_disk.specs.Opening.{IsSettled}

pub found_all : List (ℕ × List ℕ) → List Call
found_all [] = []
found_all (e ∷ es) = Found e.0 e.1 ∷ found_all es

found_it : (b : Bool) (k : ℕ) (bytes : List ℕ) (c : Option (List ℕ)) (before : Option (List ℕ) → Type 0) → before c → LeavesIf b (Found k bytes) (cond b (Some bytes) c) before (cond b (Some bytes) c)
found_it true k bytes c before may = refl
found_it false k bytes c before may = may

found_stays : (kept : List (ℕ × List ℕ)) (n : ℕ) → MayLeave n (found_all kept) (content n (found_all kept))
unfolding found_all content MayLeave
found_stays [] n = refl
found_stays (e ∷ es) n = found_it (eqb e.0 n) e.0 e.1 (content n (found_all es)) (MayLeave n (found_all es)) (found_stays es n)

pub found_left : (kept : List (ℕ × List ℕ)) → IsLeftBy kept (found_all kept)
unfolding found_all content
found_left kept = record { each = at kept; stays = λ n. found_stays kept n }
  where
    at : (kept : List (ℕ × List ℕ)) (n : ℕ) → content n (found_all kept) ≡ file_in kept n
    at [] n = refl
    at (e ∷ es) n =
        let more = at es n in
        elim (cases_eq e.0 n) [
          | inl same ↦ grind (arith, common_steps, nat_tests, unsigned_tied n e.0)
          | inr other ↦ grind (arith, common_steps, nat_tests, unsigned_tied n e.0)
        ]

leaves_it : (b : Bool) (n k : ℕ) (bytes : List ℕ) (rest : List Call) (x : Option (List ℕ)) → ((y : Option (List ℕ)) → MayLeave n rest y → y ≡ content n rest)
    → LeavesIf b (Found k bytes) (cond b (Some bytes) (content n rest)) (MayLeave n rest) x → x ≡ cond b (Some bytes) (content n rest)
leaves_it true n k bytes rest x more now = now
leaves_it false n k bytes rest x more now = more x now

pub found_settled : (kept : List (ℕ × List ℕ)) → IsSettled (found_all kept)
unfolding found_all content MayLeave
found_settled kept = record { only = λ n. at kept n }
  where
    at : (kept : List (ℕ × List ℕ)) (n : ℕ) (x : Option (List ℕ)) → MayLeave n (found_all kept) x → x ≡ content n (found_all kept)
    at [] n x now = now
    at (e ∷ es) n x now = leaves_it (eqb e.0 n) n e.0 e.1 (found_all es) x (at es n) now
