-- Why a run is refused, in words.
use Rattle.std.specs.Prelude.{ℕ, List, [], ◌∷◌, codes}
use Rattle.simplex_transcript.specs.declared.field.Field.{Field}
use Rattle.simplex_transcript.specs.declared.field.Field.TheVariants as fields
use Rattle.simplex_transcript.specs.declared.refusal.RunError.{RunError}
use Rattle.simplex_transcript.specs.declared.refusal.RunError.TheVariants as errors
use Rattle.simplex_text.specs.Lines.{pieces}

-- the limit of an item of a setup
abbrev pub limit_of : Field → List ℕ
limit_of fields.Events = codes "there may be 2^20 events, and 2^25 events times members"
limit_of fields.Members = codes "there have to be 1 to 256 members, and with a scenario 1 to 64"
limit_of fields.Faulty = codes "fewer than a third of the members may be faulty"
limit_of fields.Epoch = codes "it has to be below 2^64 - 1"
limit_of fields.Term = codes "it has to be 1 to 2^32"
limit_of fields.Lookahead = codes "it may be up to 2^32"
limit_of fields.LeaderTimeout = codes "it has to be 1 to 2^62, and at most the certification timeout"
limit_of fields.CertificationTimeout = codes "it has to be 1 to 2^62"
limit_of fields.Retry = codes "it has to be 1 to 2^62"
limit_of fields.Stall = codes "it has to be null, or above the certification timeout and at most 2^62"
limit_of fields.Retention = codes "it has to be 1 to 2^32"
limit_of fields.Skip = codes "its timeout has to be 1 to 2^62"
limit_of fields.Mailbox = codes "it has to be 1 to 4096"
limit_of fields.FetchTimeout = codes "it has to be 1 to 2^62"
limit_of fields.FetchRetry = codes "it may be up to 2^62"
limit_of fields.Scenario = codes "each leader has to be a member with a bit in one of the masks, and the masks have bits of members alone"

abbrev pub reason_of : RunError → List ℕ
reason_of (errors.BadSetup field) = limit_of field
reason_of errors.NoMember = codes "there is no such node"
reason_of errors.NotRunning = codes "the node is stopped: it has to start first"
reason_of errors.NotStopped = codes "the node runs: it has to crash before it can start again"
reason_of errors.NoPacket = codes "no earlier event sent this packet to the node"
reason_of errors.NotPending = codes "the request is not open: it was not made, was answered or dropped, or takes another kind of answer"
reason_of errors.NotFaulty = codes "only a faulty member sends bytes of its own"
reason_of errors.ForeignFloor = codes "no honest member reported this finalization"
reason_of errors.ClockEnd = codes "the clock would pass its end"
reason_of errors.ViewEnd = codes "the node's view is too near the greatest one"
reason_of (errors.Forged member subject) = codes "the bytes have an honest member's signature for a vote that it did not send"
reason_of errors.Failed = codes "memory ran out before"
reason_of errors.Memory = codes "memory ran out"

-- the line that says why
abbrev pub reason_line : RunError → List ℕ
reason_line error = pieces (codes "why: " ∷ reason_of error ∷ codes "\n" ∷ [])
