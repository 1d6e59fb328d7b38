use Rattle.std.proofs.Common.{◌≡◌, ◌∙◌}
use Rattle.std.proofs.lemmas.Result.{IfOk-weaker}
use Rattle.law_log.specs.Logs.{logs_in}
use Rattle.simplex_logs.specs.NodeLogs.{taken_logs}
use Rattle.simplex_logs.proofs.Transcripts.{transcript_members, all_taken}
use Rattle.simplex_logs.proofs.node_logs.logs.Goals as goal

pub taken_logs-requires-clause-some : goal.taken_logs-requires-clause-some
taken_logs-requires-clause-some c = (transcript_members c.args.setup.now c.requires.0 c.args.entries.now c.requires.1).0

pub taken_logs-requires-clause-few : goal.taken_logs-requires-clause-few
taken_logs-requires-clause-few c = (transcript_members c.args.setup.now c.requires.0 c.args.entries.now c.requires.1).1

pub returns : goal.returns
returns c =
    let setup = c.args.setup.now in
    let entries = c.args.entries.now in
    let fine = c.logs_of_a_whole_run.ensures.clashes setup c.requires.0 entries c.requires.1 in
    IfOk-weaker c.taken_logs.result (λ logs. logs ≡ taken_logs setup entries) (λ logs. logs ≡ logs_in setup entries) (λ logs e. e ∙ all_taken setup entries fine) c.taken_logs.ensures
