use Rattle.std.proofs.Common.{◌∙◌}
use Rattle.simplex_records.proofs.Keeping.{records-packet}
use Rattle.simplex_records.proofs.records.Records.packet_for.Goals as goal

pub returns : goal.returns
returns c = λ setup before stand. rw c.deref.ensures.value at c.packet_for.ensures ∙ records-packet _ setup before _ _ stand
