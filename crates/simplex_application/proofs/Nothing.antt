-- Where nothing is there to be taken, all stays as it is.
use Rattle.std.proofs.Common.{◌≡◌, ◌∙◌, ap, refl, ℕ, zero, suc, List, [], ◌∷◌, Option, Some, None, drop, slice_set, arith}
use Rattle.std.specs.Prelude.{slice_get, option_and_then}
use Rattle.simplex_mocks.specs.declared.message.Message.{Message}
use Rattle.simplex_mocks.specs.declared.relayed.Relayed.{Relayed}
use Rattle.simplex_mocks.specs.Queue.{Queue, first_of as first_message, after_take}
use Rattle.simplex_mocks.specs.Relay.{Place, first_of, rest_of, if_place, front, after_take as after_relay_take}

pub queue_stays : (queue : Queue) → first_message queue.waiting ≡ None → after_take queue ≡ queue
unfolding after_take
queue_stays queue e = ap (λ waiting. record { waiting = waiting; next = queue.next }) (by_waiting queue.waiting e)
  where
    by_waiting : (waiting : List Message) → first_message waiting ≡ None → drop 1 waiting ≡ waiting
    by_waiting [] e = refl
    by_waiting (message ∷ later) e = grind (arith, e)

-- what is put where it is changes nothing
set_there : {A : Type 0} (xs : List A) (i : ℕ) (x : A) → slice_get xs i ≡ Some x → slice_set xs i x ≡ xs
set_there [] i x e = refl
set_there (y ∷ ys) zero x e = grind (arith, e)
set_there (y ∷ ys) (suc i) x e = ap (λ zs. y ∷ zs) (set_there ys i x e)

pub relay_stays : (relay : List Place) (number : ℕ) → front relay number ≡ None → after_relay_take relay number ≡ relay
unfolding front after_relay_take
relay_stays relay number e = by_place (slice_get relay number) (set_there relay number) e
  where
    by_holds : (holds : List Relayed) → first_of holds ≡ None → rest_of holds ≡ holds
    by_holds [] e = refl
    by_holds (relayed ∷ others) e = grind (arith, e)

    by_place : (found : Option Place) → ((place : Place) → found ≡ Some place → slice_set relay number place ≡ relay)
        → option_and_then (λ place. first_of place.holds) found ≡ None → if_place relay number found ≡ relay
    by_place None there e = refl
    by_place (Some place) there e =
        ap (λ holds. slice_set relay number (record { member = place.member; holds = holds })) (by_holds place.holds e) ∙ there place refl
