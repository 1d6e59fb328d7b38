use Rattle.std.proofs.Common.{ap, ◌∙◌}
use Rattle.std.specs.Option.{is_some}
use Rattle.simplex_records.proofs.records.Records.has_packet.Goals as goal

pub returns : goal.returns
returns c = λ setup before stand. rw c.deref.ensures.value at c.has_packet.ensures ∙ ap is_some (stand.packets c.args.at)
