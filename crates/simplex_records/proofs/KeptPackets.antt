-- The packets of one event more.
use Rattle.std.proofs.Common.{◌≡◌, List, [], ◌∷◌, ◌++◌, Bool, true, false, arith, refl, length, ◌+◌, ◌-◌, ap, ◌∙◌, if◌then◌else◌}
use Rattle.std.specs.Prelude.{◌==◌, None}
use Rattle.std.specs.List.{slice_get}
use Rattle.std.specs.Option.{option_and_then}
use Rattle.std.proofs.lemmas.Grind.{common_steps}
use Rattle.std.proofs.lemmas.List.Elements.{All-nil, All-cons}
use Rattle.simplex_messages.specs.declared.call.Call.{Call}
use Rattle.simplex_messages.specs.declared.call.Call.TheVariants as calls
use Rattle.simplex_transcript.specs.declared.entry.Packet.{Packet}
use Rattle.simplex_transcript.specs.declared.node.Node.{Node}
use Rattle.simplex_transcript.specs.declared.node.Ref.{Ref}
use Rattle.simplex_transcript.specs.declared.setup.Setup.{Setup}
use Rattle.model_run.specs.Life.{Noted}
use Rattle.model_run.specs.Requests.{packet_at}
use Rattle.model_run.specs.Routing.{packet_for_send}
use Rattle.model_run.specs.Entries.{packets_of}
use Rattle.simplex_records.specs.Packets.{packet_in}
use Rattle.simplex_records.specs.Events.{AreFrom}
use Rattle.simplex_records.proofs.Lists.{slice_get-push}

-- ---- the packets of a node's sends are its own

pub packets-from : (setup : Setup) (node : Node) (made : List Call) → AreFrom node (packets_of setup node made)
packets-from setup node [] = All-nil (λ (p : Packet). p.from ≡ node)
packets-from setup node (calls.Send channel to bytes ∷ made) =
    All-cons (λ (p : Packet). p.from ≡ node) (packet_for_send setup node channel to bytes) (packets_of setup node made) refl (packets-from setup node made)
packets-from setup node (calls.Append section artifact ∷ made) = packets-from setup node made
packets-from setup node (calls.Sync section ∷ made) = packets-from setup node made
packets-from setup node (calls.Prune least ∷ made) = packets-from setup node made
packets-from setup node (calls.Report activity ∷ made) = packets-from setup node made
packets-from setup node (calls.Relay payload plan ∷ made) = packets-from setup node made
packets-from setup node (calls.Block other why ∷ made) = packets-from setup node made

-- ---- one event more

push_at : (events : List (List Packet)) (packets : List Packet) (at : Ref) (b : Bool) → (at.event == 0) ≡ b
    → (if b then None else option_and_then (λ s. slice_get s at.place) (slice_get (events ++ packets ∷ []) (at.event - 1)))
    ≡ (if length events + 1 == at.event then slice_get packets at.place else (if b then None else option_and_then (λ s. slice_get s at.place) (slice_get events (at.event - 1))))
push_at events packets at true e = grind (arith, common_steps)
push_at events packets at false e = grind (arith, common_steps, slice_get-push events packets (at.event - 1))

pub packet_in-push : (events : List (List Packet)) (packets : List Packet) (at : Ref)
    → packet_in (events ++ packets ∷ []) at ≡ (if length events + 1 == at.event then slice_get packets at.place else packet_in events at)
unfolding packet_in
packet_in-push events packets at = push_at events packets at (at.event == 0) refl

alike : {A : Type 0} (b c : Bool) (x z w : A) → b ≡ c → z ≡ w → (if b then x else z) ≡ (if c then x else w)
alike true true x z w e g = refl
alike true false x z w e g = absurd (cc)
alike false true x z w e g = absurd (cc)
alike false false x z w e g = g

-- the packets of one event more are found by its number
pub packets-push : (events : List (List Packet)) (before : List Noted) (noted : Noted)
    → length events ≡ length before → ((at : Ref) → packet_in events at ≡ packet_at before at)
    → (at : Ref) → packet_in (events ++ noted.entry.packets ∷ []) at ≡ packet_at (noted ∷ before) at
unfolding packet_at
packets-push events before noted count each at =
    packet_in-push events noted.entry.packets at
    ∙ alike (length events + 1 == at.event) (length before + 1 == at.event) (slice_get noted.entry.packets at.place) _ _ (ap (λ n. n + 1 == at.event) count) (each at)

no_place : (b : Bool) (at : Ref) → (if b then None else option_and_then (λ (s : List Packet). slice_get s at.place) (slice_get [] (at.event - 1))) ≡ None
no_place true at = refl
no_place false at = refl

-- no event yet
pub no-packets : (at : Ref) → packet_in [] at ≡ packet_at [] at
unfolding packet_in packet_at
no-packets at = no_place (at.event == 0) at
