-- What one call of a file comes to, however it ended.
use Rattle.std.proofs.Common.{ℕ, ◌≤◌, Bool, List, ◌∷◌, length, Result, Ok, Err, refl, inl, inr}
use Rattle.std.specs.Result.{OnOk, OnErr}
use Rattle.simplex_disk.specs.Calls.{Call, Write, Cut, Remove, Sync, Leave, WritesInPart, CutsInPart, RemovesInPart}
use Rattle.simplex_disk.specs.Moments.{AlwaysOf, Then}
use Rattle.simplex_disk.proofs.Calls.{only-write, only-cut, only-remove, only-sync, only-leave}
use Rattle.simplex_disk.proofs.Moments.{more_of}

-- H0 is a moment before, since which P holds; H is the moment before the call.
module _ (n : ℕ) (P : List Call → Type 0) (H0 H : List Call) (so_far : AlwaysOf n P H0 H) where
  pub cut_so_far : (len : ℕ) (done : Bool) → P (Cut n len done ∷ H) → AlwaysOf n P H0 (Cut n len done ∷ H)
  cut_so_far len done here = more_of n P H0 H _ (Cut n len done) so_far refl (only-cut n len done) here

  pub sync_so_far : P (Sync n ∷ H) → AlwaysOf n P H0 (Sync n ∷ H)
  sync_so_far here = more_of n P H0 H _ (Sync n) so_far refl (only-sync n) here

  pub write_so_far : (place range : ℕ) (bytes : List ℕ) → P (Write n place range bytes ∷ H) → AlwaysOf n P H0 (Write n place range bytes ∷ H)
  write_so_far place range bytes here = more_of n P H0 H _ (Write n place range bytes) so_far refl (only-write n place range bytes) here

  pub leave_so_far : (place byte : ℕ) → P (Leave n place byte ∷ H) → AlwaysOf n P H0 (Leave n place byte ∷ H)
  leave_so_far place byte here = more_of n P H0 H _ (Leave n place byte) so_far refl (only-leave n place byte) here

  pub remove_so_far : (done : Bool) → P (Remove n done ∷ H) → AlwaysOf n P H0 (Remove n done ∷ H)
  remove_so_far done here = more_of n P H0 H _ (Remove n done) so_far refl (only-remove n done) here

  module _ (St R : List Call → Type 0) where
    pub then_same : St H → R H → Then St (AlwaysOf n P H0) R
    then_same stands here = record { now = H; stands = stands; held = so_far; holds = here }

    pub then_cut_in_part : (len : ℕ) → CutsInPart n len H St → ((done : Bool) → P (Cut n len done ∷ H)) → R H → ((done : Bool) → R (Cut n len done ∷ H)) → Then St (AlwaysOf n P H0) R
    then_cut_in_part len (inl same) moments here there = then_same same here
    then_cut_in_part len (inr some) moments here there = record { now = Cut n len some.0 ∷ H; stands = some.1; held = cut_so_far len some.0 (moments some.0); holds = there some.0 }

    pub then_written_in_part : (place range : ℕ) → WritesInPart n place range H St → ((left : List ℕ) → length left ≤ range → P (Write n place range left ∷ H))
        → R H → ((left : List ℕ) → length left ≤ range → R (Write n place range left ∷ H)) → Then St (AlwaysOf n P H0) R
    then_written_in_part place range (inl same) moments here there = then_same same here
    then_written_in_part place range (inr some) moments here there = record {
      now = Write n place range some.0 ∷ H;
      stands = some.2;
      held = write_so_far place range some.0 (moments some.0 some.1);
      holds = there some.0 some.1;
    }

    pub then_removed_in_part : RemovesInPart n H St → ((done : Bool) → P (Remove n done ∷ H)) → R H → ((done : Bool) → R (Remove n done ∷ H)) → Then St (AlwaysOf n P H0) R
    then_removed_in_part (inl same) moments here there = then_same same here
    then_removed_in_part (inr some) moments here there = record { now = Remove n some.0 ∷ H; stands = some.1; held = remove_so_far some.0 (moments some.0); holds = there some.0 }

  -- a sync as the last call
  pub then_synced : {T E : Type 0} (r : Result T E) (Old New : List Call → Type 0) (R : Result T E → List Call → Type 0) → Old H
      → OnOk r ((calls : List Call) → Old calls → New (Sync n ∷ calls)) → OnErr r ((calls : List Call) → Old calls → New calls) → P (Sync n ∷ H)
      → ((x : T) → R (Ok x) (Sync n ∷ H)) → ((e : E) → R (Err e) H) → Then New (AlwaysOf n P H0) (R r)
  then_synced (Ok x) Old New R stands ok err moments done failed = record { now = Sync n ∷ H; stands = ok H stands; held = sync_so_far moments; holds = done x }
  then_synced (Err e) Old New R stands ok err moments done failed = record { now = H; stands = err H stands; held = so_far; holds = failed e }
