use Rattle.std.proofs.Common.{refl}
use Rattle.simplex_messages.specs.declared.call.Call.TheVariants as calls
use Rattle.model_steps.specs.Voter.{started}
use Rattle.law_member.proofs.Syncing.{finds_synced}
use Rattle.law_member.proofs.VoterStarting.{start_sound}
use Rattle.law_member.proofs.syncs.starts_follow_syncs.Goals as goal

pub returns-clause-reports : goal.returns-clause-reports
returns-clause-reports c = λ made now floor records before behind activity e.
    let s = start_sound made now floor records in finds_synced (started made now floor records).calls before behind (calls.Report activity) s.guarded refl e

pub returns-clause-prunes : goal.returns-clause-prunes
returns-clause-prunes c = λ made now floor records before behind least e.
    let s = start_sound made now floor records in finds_synced (started made now floor records).calls before behind (calls.Prune least) s.guarded refl e

pub returns-clause-end : goal.returns-clause-end
returns-clause-end c = λ made now floor records. let s = start_sound made now floor records in s.stored
