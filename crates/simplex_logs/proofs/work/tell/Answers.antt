use Rattle.std.proofs.Common.{rules, ◌≡◌, string_bytes}
use Rattle.law_log.specs.Lines.{lines_of}
use Rattle.law_log.specs.Logs.{logs_in}
use Rattle.simplex_logs.proofs.Logged.{made_logged}
use Rattle.simplex_logs.proofs.work.tell.Goals as goal

pub returns : goal.returns
returns c =
    let same : c.in_ok-logs.logs ≡ logs_in c.args.input.now.setup c.args.transcript.entries = search rules in
    let told : string_bytes c.in_ok-text.text ≡ lines_of c.in_ok-logs.logs = search rules in
    made_logged c.args.input.now c.args.transcript c.in_ok-logs.logs (string_bytes c.in_ok-text.text) c.requires c.logs_of_a_whole_run.ensures.logs same told
