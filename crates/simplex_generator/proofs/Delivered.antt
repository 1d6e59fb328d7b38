-- Events that deliver nothing.
use Rattle.std.proofs.Common.{◌≡◌, ◌+◌, Bool, false, not, List, [], ◌∷◌, length, refl, arith}
use Rattle.std.proofs.lemmas.Bool.{le-ltb}
use Rattle.std.specs.Prelude.{None}
use Rattle.std.specs.List.{position, prefix_len}
use Rattle.simplex_transcript.specs.declared.event.Event.{Event}
use Rattle.simplex_transcript.specs.declared.event.Event.TheVariants as events
use Rattle.simplex_generator.specs.declared.undelivered.Parcel.{Parcel}
use Rattle.simplex_generator.specs.Undelivered.{delivers, is_delivered_by}

fails_all : {A : Type 0} (test : A → Bool) (items : List A) → ((item : A) → test item ≡ false) → prefix_len (λ item. not (test item)) items ≡ length items
fails_all test [] fails = refl
fails_all test (item ∷ items) fails =
    let more : 1 + prefix_len (λ other. not (test other)) items ≡ length (item ∷ items) = omega (arith, fails_all test items fails) in
    rw (fails item) more

nowhere : {A : Type 0} (test : A → Bool) (items : List A) → ((item : A) → test item ≡ false) → None ≡ position test items
nowhere test items fails = rw (fails_all test items fails, le-ltb (length items) (length items) (omega arith)) refl

-- an event that delivers nothing delivers none of these
pub none_delivered : (event : Event) (parcels : List Parcel) → delivers event ≡ false → None ≡ position (is_delivered_by event) parcels
none_delivered (events.Deliver node packet) parcels none = absurd (cc)
none_delivered (events.Start node floor stop) parcels none = nowhere (is_delivered_by (events.Start node floor stop)) parcels (λ parcel. refl)
none_delivered (events.Tick ms) parcels none = nowhere (is_delivered_by (events.Tick ms)) parcels (λ parcel. refl)
none_delivered (events.Step node source stop) parcels none = nowhere (is_delivered_by (events.Step node source stop)) parcels (λ parcel. refl)
none_delivered (events.Answer node request answer) parcels none = nowhere (is_delivered_by (events.Answer node request answer)) parcels (λ parcel. refl)
none_delivered (events.Crash node) parcels none = nowhere (is_delivered_by (events.Crash node)) parcels (λ parcel. refl)
none_delivered (events.Inject member channel to bytes) parcels none = nowhere (is_delivered_by (events.Inject member channel to bytes)) parcels (λ parcel. refl)
