-- Lists of transfers: the loop that reads them, and their law.
use Rattle.std.proofs.Common.{◌≡◌, ℕ, zero, suc, ◌+◌, ◌-◌, ◌<◌, ◌≤◌, List, [], ◌∷◌, ◌++◌, length, Result, Ok, Err, refl, sym, ap, subst, ◌∙◌, append_assoc, arith}
use Rattle.std.specs.List.{flat_map, AllByRecursion}
use Rattle.std.proofs.lemmas.List.{append-nil}
use Rattle.std.proofs.lemmas.List.Concat.{flat_map-cons}
use Rattle.simplex_wire.specs.declared.error.DecodeError.{DecodeError}
use Rattle.simplex_wire.specs.declared.error.DecodeError.TheVariants.{Fault, Memory}
use Rattle.simplex_wire.specs.Fits.{IsBytes}
use Rattle.simplex_wire.specs.Format.{◌>>=◌, Left, GivesItemsUnlessMemory}
use Rattle.simplex_wire.specs.Number.{varint, number32}
use Rattle.simplex_wire.proofs.Bytes.{bind_ok, ok_is, Takes, Takes-then}
use Rattle.simplex_wire.proofs.Formats.{IsFormat, both_is, seen_is, number32_is, number64_is}
use Rattle.model_ledger.specs.declared.transfer.Transfer.{Transfer}
use Rattle.model_ledger.specs.Blocks.{transfer, transfers_from, block}
use Rattle.simplex_ledger.specs.Fits.{FitsTransfer, FitsBlock}

-- ---- the loop

-- what was read before, and what is still read
abbrev pub with_front : List Transfer → Result (List Transfer × Left) DecodeError → Result (List Transfer × Left) DecodeError
with_front front read = read >>= λ x. Ok (front ++ x.0, x.1)

regroup : (front : List Transfer) (t : Transfer) (read : Result (List Transfer × Left) DecodeError) → with_front front (read >>= λ x. Ok (t ∷ x.0, x.1)) ≡ with_front (front ++ t ∷ []) read
regroup front t (Ok x) = ap (λ (list : List Transfer). Ok (list, x.1)) (simp append_assoc)
regroup front t (Err e) = refl

pub goes_on : (front : List Transfer) (count i : ℕ) (left : Left) (t : Transfer) (after : Left) (total : Result (List Transfer × Left) DecodeError) → i < count → transfer.reading left ≡ Ok (t, after)
    → with_front front (transfers_from (count - i) left) ≡ total → with_front (front ++ t ∷ []) (transfers_from (count - (i + 1)) after) ≡ total
unfolding transfers_from
goes_on front count i left t after total lt h so_far =
    let k : count - i ≡ suc (count - (i + 1)) = omega arith in
    let one : with_front front (transfers_from (count - i) left) ≡ with_front (front ++ t ∷ []) (transfers_from (count - (i + 1)) after) = rw (k, h) (regroup front t (transfers_from (count - (i + 1)) after)) in
    sym one ∙ so_far

pub ends : (e : DecodeError) (front : List Transfer) (count i : ℕ) (left after : Left) (total : Result (List Transfer × Left) DecodeError) → i < count → transfer.reading left ≡ Err e
    → with_front front (transfers_from (count - i) left) ≡ total → GivesItemsUnlessMemory {A = Transfer} after (Err e) total
unfolding transfers_from
ends Memory front count i left after total lt h so_far = tt
ends (Fault cause place) front count i left after total lt h so_far =
    let k : count - i ≡ suc (count - (i + 1)) = omega arith in
    let one : with_front front (transfers_from (count - i) left) ≡ Err (Fault cause place) = rw (k, h) refl in
    sym so_far ∙ one

pub is_done : (front : List Transfer) (count i : ℕ) (left : Left) (total : Result (List Transfer × Left) DecodeError) → count ≤ i → with_front front (transfers_from (count - i) left) ≡ total → total ≡ Ok (front, left)
unfolding transfers_from
is_done front count i left total le so_far =
    let k : count - i ≡ 0 = omega arith in
    let one : with_front front (transfers_from (count - i) left) ≡ Ok (front, left) = rw k (ap (λ (list : List Transfer). Ok (list, left)) (append-nil front)) in
    sym so_far ∙ one

-- ---- the formats are lawful

transfer_is : IsFormat transfer FitsTransfer
unfolding transfer
transfer_is = seen_is _ _ _ _ (λ a. refl) (λ b. refl) (both_is _ _ _ _ number32_is (both_is _ _ _ _ number32_is number64_is))

list_takes : (n : ℕ) (left : Left) (x : List Transfer × Left) → IsBytes left.bytes → transfers_from n left ≡ Ok x
    → Takes left (flat_map transfer.spelling x.0) x.1 × ((length x.0 ≡ n) × AllByRecursion FitsTransfer x.0)
unfolding transfers_from
list_takes zero left x fits e =
    subst (λ (y : List Transfer × Left). Takes left (flat_map transfer.spelling y.0) y.1 × ((length y.0 ≡ 0) × AllByRecursion FitsTransfer y.0)) (ok_is ([], left) x e)
    (record { parts = refl; end = refl; rest_fits = fits }, (refl, tt))
list_takes (suc n) left x fits e =
    let a = bind_ok (transfer.reading left) (λ first. transfers_from n first.1 >>= λ others. Ok (first.0 ∷ others.0, others.1)) x e in
    let b = bind_ok (transfers_from n a.0.1) (λ others. Ok (a.0.0 ∷ others.0, others.1)) x a.2 in
    let first = transfer_is.takes left a.0 fits a.1 in
    let second = list_takes n a.0.1 b.0 first.0.rest_fits b.1 in
    let taken = Takes-then left (transfer.spelling a.0.0) a.0.1 (flat_map transfer.spelling b.0.0) b.0.1 first.0 second.0 in
    let made : List Transfer × Left = (a.0.0 ∷ b.0.0, b.0.1) in
    subst (λ (y : List Transfer × Left). Takes left (flat_map transfer.spelling y.0) y.1 × ((length y.0 ≡ suc n) × AllByRecursion FitsTransfer y.0)) (ok_is made x b.2)
    (rw flat_map-cons taken, (ap suc second.1.0, (first.1, second.1.1)))

list_again : (end : ℕ) (list : List Transfer) (rest : List ℕ) → AllByRecursion FitsTransfer list
    → transfers_from (length list) (record { end = end; bytes = flat_map transfer.spelling list ++ rest }) ≡ Ok (list, record { end = end; bytes = rest })
unfolding transfers_from
list_again end [] rest fits = refl
list_again end (t ∷ others) rest fits =
    let regrouped : flat_map transfer.spelling (t ∷ others) ++ rest ≡ transfer.spelling t ++ (flat_map transfer.spelling others ++ rest) =
    ap (λ (x : List ℕ). x ++ rest) (flat_map-cons transfer.spelling t others) ∙ append_assoc (transfer.spelling t) (flat_map transfer.spelling others) rest in
    ap (λ (bytes : List ℕ). transfers_from (suc (length others)) (record { end = end; bytes = bytes })) regrouped
    ∙ rw (transfer_is.again end t (flat_map transfer.spelling others ++ rest) fits.0, list_again end others rest fits.1) refl

pub block_is : IsFormat block FitsBlock
unfolding block
block_is = record {
  takes = λ left x fits e.
      let a = bind_ok (number32.reading left) (λ count. transfers_from count.0 count.1) x e in
      let t = number32_is.takes left a.0 fits a.1 in
      let u = list_takes a.0.0 a.0.1 x t.0.rest_fits a.2 in
      let taken : Takes left (varint a.0.0 ++ flat_map transfer.spelling x.0) x.1 = Takes-then left (varint a.0.0) a.0.1 (flat_map transfer.spelling x.0) x.1 t.0 u.0 in
      (rw u.1.0 taken, (rw u.1.0 t.1, u.1.1));
  again = λ end list rest fits.
      let regrouped : (varint (length list) ++ flat_map transfer.spelling list) ++ rest ≡ varint (length list) ++ (flat_map transfer.spelling list ++ rest) = append_assoc (varint (length list)) (flat_map transfer.spelling list) rest in
      ap (λ (bytes : List ℕ). block.reading (record { end = end; bytes = bytes })) regrouped
      ∙ rw (number32_is.again end (length list) (flat_map transfer.spelling list ++ rest) fits.0, list_again end list rest fits.1) refl;
}
