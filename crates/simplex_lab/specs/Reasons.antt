-- The statuses of the program's own reasons.
use Rattle.std.specs.Prelude.{ℕ}
use Rattle.simplex_lab.specs.declared.reason.LabReason.{LabReason}
use Rattle.simplex_lab.specs.declared.reason.LabReason.TheVariants as reasons

abbrev pub status_of_reason : LabReason → ℕ
status_of_reason (reasons.Refused refusal) = 1
status_of_reason (reasons.Unread place) = 8
status_of_reason reasons.NotMade = 9
