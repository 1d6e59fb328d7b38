-- What a policy's pending messages hold.
use Rattle.simplex_mailbox.specs.declared.pending.Pending.{Pending}
use Rattle.simplex_mailbox.specs.Waiting.{Waiting}

-- the place and the rest as lists
abbrev pub waits_in : {M : Type 0} → Pending M → Waiting M
waits_in pending = record { place = pending.place; rest = pending.rest.items }
