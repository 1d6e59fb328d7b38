-- The order of sends.
use Rattle.std.proofs.Common.{◌≡◌, List, [], ◌∷◌, ◌++◌, map, ap}
use Rattle.std.proofs.lemmas.List.{reverse-append}
use Rattle.model_resolver.specs.declared.sending.Sending.{Sending}
use Rattle.model_resolver.specs.Sends.{send_call, send_calls}

-- the last one is called first
pub sends-last : (sends : List Sending) (sent : Sending) → send_calls (sends ++ sent ∷ []) ≡ send_call sent ∷ send_calls sends
unfolding send_calls
sends-last sends sent = ap (map send_call) (reverse-append sends (sent ∷ []))
