use Rattle.law_log.proofs.Entries.{transcript_logs, transcript_does_not_clash}
use Rattle.law_log.proofs.transcripts.logs_of_a_whole_run.Goals as goal

pub returns-clause-logs : goal.returns-clause-logs
returns-clause-logs c = transcript_logs

pub returns-clause-clashes : goal.returns-clause-clashes
returns-clause-clashes c = transcript_does_not_clash
