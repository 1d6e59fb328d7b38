-- What holds of each packet of a run holds of the one that is delivered.
use Rattle.std.proofs.Common.{◌≡◌, ℕ, zero, suc, ◌+◌, length, ◌==◌, Bool, true, false, List, [], ◌∷◌, Option, Some, None, refl, subst, if◌then◌else◌}
use Rattle.std.specs.List.{slice_get, list_any}
use Rattle.std.specs.Option.{option_and_then}
use Rattle.simplex_transcript.specs.declared.entry.Packet.{Packet}
use Rattle.simplex_transcript.specs.declared.node.Node.{Node}
use Rattle.simplex_transcript.specs.declared.node.Ref.{Ref}
use Rattle.model_run.specs.Life.{Noted}
use Rattle.model_run.specs.Members.{is_same_node}
use Rattle.model_run.specs.Requests.{packet_at, if_for, packet_for}
use Rattle.law_run.specs.Sayings.{Each}
use Rattle.law_run.proofs.Telling.{some_is}

module _ (P : Packet → Type 0) where
  -- each packet of the entries is such
  abbrev pub InPackets : List Noted → Type 0
  InPackets noted = Each (λ (n : Noted). Each P n.entry.packets) noted

  one_of : (xs : List Packet) (i : ℕ) (x : Packet) → Each P xs → slice_get xs i ≡ Some x → P x
  one_of [] i x h e = cc
  one_of (y ∷ xs) zero x h e = subst P (some_is y x e) h.0
  one_of (y ∷ xs) (suc i) x h e = one_of xs i x h.1 e

  pub packet_there : (before : List Noted) (ref : Ref) (p : Packet) → InPackets before → packet_at before ref ≡ Some p → P p
  unfolding packet_at
  packet_there [] ref p h e = cc
  packet_there (noted ∷ before) ref p h e = at (length before + 1 == ref.event) e (packet_there before ref p h.1)
    where
      at : (b : Bool) → (if b then slice_get noted.entry.packets ref.place else packet_at before ref) ≡ Some p → (packet_at before ref ≡ Some p → P p) → P p
      at true f old = one_of noted.entry.packets ref.place p h.0 f
      at false f old = old f

  if_there : (node : Node) (p q : Packet) → if_for node p ≡ Some q → P p → P q
  if_there node p q e f = at (list_any (is_same_node node) p.to) e
    where
      at : (b : Bool) → (if b then Some p else None) ≡ Some q → P q
      at true h = subst P (some_is p q h) f
      at false h = cc

  pub packet_delivered : (before : List Noted) (node : Node) (ref : Ref) (p : Packet) → InPackets before → packet_for before node ref ≡ Some p → P p
  unfolding packet_for
  packet_delivered before node ref p h e = at (packet_at before ref) refl e
    where
      at : (o : Option Packet) → packet_at before ref ≡ o → option_and_then (if_for node) o ≡ Some p → P p
      at None f k = cc
      at (Some q) f k = if_there node q p k (packet_there before ref q h f)
