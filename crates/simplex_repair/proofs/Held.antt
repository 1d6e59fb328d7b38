-- What is held, and what it says of views.
use Rattle.std.proofs.Common.{◌≡◌, ℕ, ◌<◌, ◌≤◌, ◌∷◌, [], true, false, List, refl, arith}
use Rattle.std.proofs.lemmas.Grind.{common_steps}
use Rattle.std.specs.List.{list_any}
use Rattle.std.specs.Option.{is_some}
use Rattle.simplex_wire.specs.declared.certificate.Certificate.TheVariants as certificates
use Rattle.model_rules.specs.Lists.{greatest_of}
use Rattle.model_rules.specs.Repair.{RepairCall, Updated, Certified, Replayed, covering_nullification, is_nullified, is_final, is_failed, is_gap, is_replayed_in, final_view, repair_floor, top_of}

-- a view is nullified where a nullification covers it
pub nullified_is : (length : ℕ) (calls : List RepairCall) (view : ℕ) → is_nullified length calls view ≡ is_some (covering_nullification length calls view)
unfolding is_nullified covering_nullification
nullified_is length [] view = refl
nullified_is length (Updated (certificates.Nullification n) ∷ calls) view = grind (arith, common_steps, nullified_is length calls view)
nullified_is length (Updated (certificates.Notarization n) ∷ calls) view = nullified_is length calls view
nullified_is length (Updated (certificates.Finalization n) ∷ calls) view = nullified_is length calls view
nullified_is length (_ ∷ calls) view = nullified_is length calls view

-- what is above the floor is not final
pub above_floor : (calls : List RepairCall) (view : ℕ) → repair_floor calls < view → is_final calls view ≡ false
unfolding repair_floor final_view is_final
above_floor calls view above = grind (arith, common_steps, above)

-- what is above a view that is not final is not final
pub above_open : (calls : List RepairCall) (view later : ℕ) → is_final calls view ≡ false → view ≤ later → is_final calls later ≡ false
unfolding is_final
above_open calls view later open_at le = grind (arith, common_steps, open_at, le)

-- a failed view is at most the top
pub failed_low : (length : ℕ) (calls : List RepairCall) (view : ℕ) → is_failed calls view ≡ true → view ≤ top_of length calls
unfolding is_failed top_of greatest_of
failed_low length [] view f = grind (arith, common_steps, f)
failed_low length (Certified n false ∷ calls) view f = grind (arith, common_steps, f, failed_low length calls view)
failed_low length (Certified n true ∷ calls) view f = grind (arith, common_steps, f, failed_low length calls view)
failed_low length (Updated c ∷ calls) view f = grind (arith, common_steps, f, failed_low length calls view)
failed_low length (Replayed ∷ calls) view f = grind (arith, common_steps, f, failed_low length calls view)

-- before the replay there is no gap
pub before_replay : (length : ℕ) (calls : List RepairCall) (view : ℕ) → list_any is_replayed_in calls ≡ false → is_gap length calls view ≡ false
unfolding is_gap
before_replay length calls view r = grind (arith, common_steps, r)
