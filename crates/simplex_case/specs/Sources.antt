-- What an event takes, but for answers to requests.
use Rattle.std.specs.Prelude.{Bool, true, false}
use Rattle.simplex_transcript.specs.declared.event.StepSource.{StepSource}
use Rattle.simplex_transcript.specs.declared.event.StepSource.TheVariants as sources
use Rattle.simplex_transcript.specs.declared.node.Ref.{Ref}
use Rattle.model_audit.specs.declared.record.AuditTook.{AuditTook}
use Rattle.model_audit.specs.declared.record.AuditTook.TheVariants as taken
use Rattle.model_audit.specs.Running.{is_same_ref}

-- a step from this source took it
abbrev pub source_takes : StepSource → AuditTook → Bool
source_takes sources.Timer taken.Timer = true
source_takes sources.Fetch taken.Timer = true
source_takes sources.Batcher taken.OtherMail = true
source_takes sources.Resolver taken.OtherMail = true
source_takes sources.Handler taken.OtherMail = true
source_takes sources.Voter (taken.Proposal proposal) = true
source_takes sources.Voter (taken.Timeout round reason) = true
source_takes sources.Voter (taken.Certificate certificate) = true
source_takes _ _ = false

-- it took the packet at this place
abbrev pub is_packet : Ref → AuditTook → Bool
is_packet at (taken.Packet other) = is_same_ref at other
is_packet at _ = false
