use Rattle.std.proofs.Common.{refl}
use Rattle.law_member.proofs.Syncing.{finds_synced}
use Rattle.law_member.proofs.VoterStepping.{step_tells}
use Rattle.simplex_messages.specs.declared.call.Call.TheVariants as calls
use Rattle.law_member.proofs.syncs.reports_follow_syncs.Goals as goal

pub returns : goal.returns
returns c = λ made now input standing doing before behind activity e f.
    let t = step_tells made now input standing doing e in finds_synced doing.calls before behind (calls.Report activity) t.guarded refl f
