-- A section that was dropped, and whose file may be back.
use Rattle.std.proofs.Common.{◌≡◌, ℕ, Bool, List, [], ◌∷◌, Option, None, true, sym, subst, refl, ◌∙◌, inl, inr}
use Rattle.simplex_journal.specs.Journal.{Section}
use Rattle.simplex_disk.specs.Calls.{Call, Remove, Sync, MayLeave, bytes_of, content}
use Rattle.simplex_disk.specs.Chain.{opened, opened_by}
use Rattle.simplex_disk.specs.Index.{IsLeft, MayBeBack, LeavesOld}
use Rattle.simplex_disk.proofs.Calls.{content-remove, left-remove, left-sync}

nil_opened : opened [] ≡ []
unfolding opened_by
nil_opened = refl

-- no record is read in a file that is not there
pub none_left : (x : Option (List ℕ)) → x ≡ None → IsLeft None x
none_left x none = subst (λ (o : Option (List ℕ)). opened (bytes_of o) ≡ []) (sym none) nil_opened

-- What may be back later is what may be back before.
pub back_on : (s : Section) (n : ℕ) (H0 H : List Call) → s.number ≡ n → LeavesOld n H0 H → MayBeBack s H0 → MayBeBack s H
back_on s n H0 H is old back = λ x now. elim (old x (subst (λ (k : ℕ). MayLeave k H x) is now)) [
  | inl none ↦ inl none
  | inr before ↦ back x (subst (λ (k : ℕ). MayLeave k H0 x) (sym is) before)
]

pub old_same : (n : ℕ) (H : List Call) → LeavesOld n H H
old_same n H = λ x now. inr now

pub old_remove : (n : ℕ) (done : Bool) (H : List Call) → LeavesOld n H (Remove n done ∷ H)
old_remove n done H = λ x now. elim (left-remove n done H x now) [ inl before ↦ inr before | inr none ↦ inl (none_left x none) ]

pub old_removed : (n : ℕ) (H : List Call) → LeavesOld n H (Sync n ∷ Remove n true ∷ H)
old_removed n H = λ x now. inl (none_left x (left-sync n (Remove n true ∷ H) x now ∙ content-remove n H))

pub old_sync : (n : ℕ) (H : List Call) → MayLeave n H (content n H) → LeavesOld n H (Sync n ∷ H)
old_sync n H may = λ x now. inr (subst (λ (y : Option (List ℕ)). MayLeave n H y) (sym (left-sync n H x now)) may)
