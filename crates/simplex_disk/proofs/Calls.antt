-- What one call does to a file and its images, and leaves of the other files.
use Rattle.std.proofs.Common.{◌≡◌, ◌≢◌, ◌⊎◌, ℕ, Bool, true, false, eqb, List, [], ◌∷◌, Option, None, Some, refl, sym, subst, inl, inr, ◌∙◌, arith}
use Rattle.std.proofs.lemmas.Bool.{ne_eqb}
use Rattle.std.proofs.lemmas.Bool.Decides.{nat_tests}
use Rattle.simplex_disk.specs.Calls.{Call, Write, Cut, Remove, Sync, Leave, is_of, after, bytes_of, cut_to, written, TornIn, Leaves, LeavesIf, content, MayLeave}
use Rattle.simplex_disk.specs.Moments.{IsOfOnly}

pub same_file : (n : ℕ) → eqb n n ≡ true
same_file n = grind (arith, nat_tests)

pub other_file : (n : ℕ) (m : ℕ) → m ≢ n → eqb n m ≡ false
other_file n m other = ne_eqb n m (λ (e : n ≡ m). other (sym e))

-- ---- other files

pub content-other : (m : ℕ) (call : Call) (calls : List Call) → is_of m call ≡ false → content m (call ∷ calls) ≡ content m calls
unfolding content
content-other m call calls none = rw none refl

pub left-other : (m : ℕ) (call : Call) (calls : List Call) (x : Option (List ℕ)) → is_of m call ≡ false → MayLeave m (call ∷ calls) x → MayLeave m calls x
unfolding MayLeave
left-other m call calls x none left = subst (λ (b : Bool). LeavesIf b call (content m (call ∷ calls)) (MayLeave m calls) x) none left

left-here : (n : ℕ) (call : Call) (calls : List Call) (x : Option (List ℕ)) → is_of n call ≡ true → MayLeave n (call ∷ calls) x → Leaves call (content n (call ∷ calls)) (MayLeave n calls) x
unfolding MayLeave
left-here n call calls x here left = subst (λ (b : Bool). LeavesIf b call (content n (call ∷ calls)) (MayLeave n calls) x) here left

pub content-here : (n : ℕ) (call : Call) (calls : List Call) → is_of n call ≡ true → content n (call ∷ calls) ≡ after call (content n calls)
unfolding content
content-here n call calls here = rw here refl

-- ---- writes

pub only-write : (n place range : ℕ) (bytes : List ℕ) → IsOfOnly n (Write n place range bytes)
only-write n place range bytes = λ m other. other_file n m other

pub content-write : (n place range : ℕ) (bytes : List ℕ) (calls : List Call) → content n (Write n place range bytes ∷ calls) ≡ Some (written place bytes (bytes_of (content n calls)))
content-write n place range bytes calls = content-here n (Write n place range bytes) calls (same_file n)

pub left-write : (n place range : ℕ) (bytes : List ℕ) (calls : List Call) (x : Option (List ℕ)) → MayLeave n (Write n place range bytes ∷ calls) x
    → (y : Option (List ℕ)) × MayLeave n calls y × TornIn place range y x
left-write n place range bytes calls x left = left-here n (Write n place range bytes) calls x (same_file n) left

-- ---- syncs

pub only-sync : (n : ℕ) → IsOfOnly n (Sync n)
only-sync n = λ m other. other_file n m other

pub content-sync : (n : ℕ) (calls : List Call) → content n (Sync n ∷ calls) ≡ content n calls
content-sync n calls = content-here n (Sync n) calls (same_file n)

pub left-sync : (n : ℕ) (calls : List Call) (x : Option (List ℕ)) → MayLeave n (Sync n ∷ calls) x → x ≡ content n calls
left-sync n calls x left = left-here n (Sync n) calls x (same_file n) left ∙ content-sync n calls

-- ---- cuts

pub only-cut : (n len : ℕ) (done : Bool) → IsOfOnly n (Cut n len done)
only-cut n len done = λ m other. other_file n m other

pub content-cut : (n len : ℕ) (calls : List Call) → content n (Cut n len true ∷ calls) ≡ cut_to len (content n calls)
content-cut n len calls = content-here n (Cut n len true) calls (same_file n)

pub content-cut_or : (n len : ℕ) (done : Bool) (calls : List Call) → (content n (Cut n len done ∷ calls) ≡ content n calls) ⊎ (content n (Cut n len done ∷ calls) ≡ cut_to len (content n calls))
content-cut_or n len true calls = inr (content-cut n len calls)
content-cut_or n len false calls = inl (content-here n (Cut n len false) calls (same_file n))

pub left-cut : (n len : ℕ) (done : Bool) (calls : List Call) (x : Option (List ℕ)) → MayLeave n (Cut n len done ∷ calls) x
    → (y : Option (List ℕ)) × MayLeave n calls y × ((x ≡ y) ⊎ (x ≡ cut_to len y))
left-cut n len done calls x left = left-here n (Cut n len done) calls x (same_file n) left

-- ---- removals

pub only-remove : (n : ℕ) (done : Bool) → IsOfOnly n (Remove n done)
only-remove n done = λ m other. other_file n m other

pub content-remove : (n : ℕ) (calls : List Call) → content n (Remove n true ∷ calls) ≡ None
content-remove n calls = content-here n (Remove n true) calls (same_file n)

pub left-remove : (n : ℕ) (done : Bool) (calls : List Call) (x : Option (List ℕ)) → MayLeave n (Remove n done ∷ calls) x → MayLeave n calls x ⊎ (x ≡ None)
left-remove n done calls x left = left-here n (Remove n done) calls x (same_file n) left

-- ---- a byte that is left

pub only-leave : (n place byte : ℕ) → IsOfOnly n (Leave n place byte)
only-leave n place byte = λ m other. other_file n m other

pub content-leave : (n place byte : ℕ) (calls : List Call) → content n (Leave n place byte ∷ calls) ≡ Some (written place (byte ∷ []) (bytes_of (content n calls)))
content-leave n place byte calls = content-here n (Leave n place byte) calls (same_file n)

pub left-leave : (n place byte : ℕ) (calls : List Call) (x : Option (List ℕ)) → MayLeave n (Leave n place byte ∷ calls) x → x ≡ content n (Leave n place byte ∷ calls)
left-leave n place byte calls x left = left-here n (Leave n place byte) calls x (same_file n) left
