-- Which calls a repair state stands for.
use Rattle.std.specs.Prelude.{◌≡◌, ℕ, ◌<◌, ◌^◌, false, List, ◌∷◌}
use Rattle.std.specs.List.{list_any}
use Rattle.std.specs.Option.{is_some}
use Rattle.simplex_values.specs.Terms.{term_index}
use Rattle.model_rules.specs.declared.effect.Effect.{Effect}
use Rattle.model_rules.specs.Repair.{RepairCall, effects_of, notarization_held, nullification_held, finalization_held, covering_nullification, is_final, is_good, is_failed, is_replayed_in, repair_floor, top_of}
use Rattle.simplex_repair.specs.declared.repair.RepairState.{RepairState}
use Rattle.simplex_values.specs.Maps.{found, has}
use Rattle.simplex_repair.specs.Maps.{reaching}
use Rattle.simplex_repair.specs.Taken.{is_taken}

-- the state keeps what was given, but for what cannot be asked for any more since a later view is final
pub record Keeps (state : RepairState) (length : ℕ) (calls : List RepairCall) : Type 0 where
  pub terms : state.length ≡ length
  pub some_length : 0 < length
  pub top_fits : state.top < 2 ^ 64
  pub replayed : state.is_replayed ≡ list_any is_replayed_in calls
  pub finalization : state.finalization ≡ finalization_held calls
  pub floor : state.floor ≡ repair_floor calls
  pub top : state.top ≡ top_of length calls
  pub notarized : (view : ℕ) → is_taken state.notarized view ≡ is_some (notarization_held calls view)
  pub nullified : (view : ℕ) → is_taken state.nullified view ≡ is_some (nullification_held calls view)
  pub failed : (view : ℕ) → has state.failed view ≡ is_failed calls view
  pub good : (view : ℕ) → is_final calls view ≡ false → has state.good view ≡ is_good calls view
  pub notarizations : (view : ℕ) → is_final calls view ≡ false
      → found state.notarizations view ≡ notarization_held calls view
  pub nullifications : (view : ℕ) → is_final calls view ≡ false
      → reaching (found state.nullifications (term_index length view)) view ≡ covering_nullification length calls view

-- the state stands for the calls that it was given, the newest first
unfoldable pub StandsFor : RepairState → ℕ → List RepairCall → Type 0
StandsFor state length calls = Keeps state length calls

-- whatever calls the old state stands for, the new one stands for them with this one behind
abbrev pub Takes : RepairState → RepairState → RepairCall → Type 0
Takes old new call = (length : ℕ) (calls : List RepairCall) → StandsFor old length calls
    → StandsFor new length (call ∷ calls)

-- whatever calls the state stands for, the answer is the rule's
abbrev pub Answers : {R : Type 0} → RepairState → (ℕ → List RepairCall → R) → R → Type 0
Answers state rule answer = (length : ℕ) (calls : List RepairCall)
    → StandsFor state length calls → answer ≡ rule length calls

-- whatever calls the state stands for, these are the effects of the next one
abbrev pub Causes : RepairState → RepairCall → List Effect → Type 0
Causes state call effects = Answers state (λ length calls. effects_of length calls call) effects

-- whatever calls the state stands for, this holds of them
abbrev pub WhenStands : RepairState → (ℕ → List RepairCall → Type 0) → Type 0
WhenStands state Says = (length : ℕ) (calls : List RepairCall) → StandsFor state length calls → Says length calls
