use Rattle.std.proofs.Common.{subst, sym, ap, ◌∙◌}
use Rattle.simplex.specs.Setting.{at_epoch_genesis}
use Rattle.example_monitor.specs.Accusations.{SparesHonest, accusations_of}
use Rattle.example_monitor.proofs.Sparing.{spared}
use Rattle.example_monitor.proofs.watching.watch.Goals as goal

pub returns-in-Ok-accusations_of-clause-faulty : goal.returns-in-Ok-accusations_of-clause-faulty
returns-in-Ok-accusations_of-clause-faulty c =
    let setup = c.args.setup.now in
    let entries = c.in-Ok.transcript.entries in
    let each = c.transcripts_blame_no_honest_member.ensures (at_epoch_genesis setup) c.args.events.now entries c.in-Ok.ensures.done c.in-Ok.ensures.safe in
    subst (SparesHonest setup) (sym (c.in-Ok-accusations_of.ensures ∙ ap accusations_of c.as_slice.ensures)) (spared setup entries each)
