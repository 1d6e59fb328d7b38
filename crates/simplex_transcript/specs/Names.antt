-- How the items of a setup are written.
use Rattle.std.specs.Prelude.{ℕ, List, codes}
use Rattle.simplex_transcript.specs.declared.field.Field.{Field}
use Rattle.simplex_transcript.specs.declared.field.Field.TheVariants as fields

-- the name of an item, as a key of the setup
abbrev pub field_name : Field → List ℕ
field_name fields.Events = codes "events"
field_name fields.Members = codes "members"
field_name fields.Faulty = codes "faulty"
field_name fields.Epoch = codes "epoch"
field_name fields.Term = codes "term"
field_name fields.Lookahead = codes "lookahead"
field_name fields.LeaderTimeout = codes "leader_timeout"
field_name fields.CertificationTimeout = codes "certification_timeout"
field_name fields.Retry = codes "retry"
field_name fields.Stall = codes "stall"
field_name fields.Retention = codes "retention"
field_name fields.Skip = codes "skip"
field_name fields.Mailbox = codes "mailbox"
field_name fields.FetchTimeout = codes "fetch_timeout"
field_name fields.FetchRetry = codes "fetch_retry"
field_name fields.Scenario = codes "scenario"
